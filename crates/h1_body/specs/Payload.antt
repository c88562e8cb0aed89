-- The payload that was read of a body, which memory holds or not.
use Rattle.std.specs.Prelude.{◌≡◌, ◌<◌, ◌≤◌, ◌⊎◌, ℕ, List, [], ◌++◌, length, Bool, true, false, Option}
use Rattle.std.specs.Bool.{then_some}
use Rattle.h1_error.specs.Memory.{no_memory}
use Rattle.h1_error.specs.declared.error.Error.{Error}
use Rattle.h1_error.specs.declared.error.ErrorType.TheVariants.{ContentTooLarge}
use Rattle.h1_body.specs.Body.{Body, payload_of}
use Rattle.h1_body.specs.Takes.{IsNextRun}
use Rattle.h1_body.specs.declared.payload.Gathering.{Gathering}
use Rattle.h1_body.specs.declared.payload.Held.{Held}
use Rattle.h1_body.specs.declared.payload.Held.TheVariants as held
use Rattle.h1_body.specs.declared.reader.BodyReader.{BodyReader}

-- all bytes that were read, whether memory holds them, and how many there may be
pub record Payload : Type 0 where
  pub bytes : List ℕ
  pub gathering : Gathering

-- nothing was read yet
abbrev pub no_payload : Gathering → Payload
no_payload gathering = record { bytes = []; gathering = gathering }

-- this was read too
abbrev pub grown : List ℕ → Payload → Payload
grown piece payload = record payload { bytes = payload.bytes ++ piece }

-- what memory holds: all bytes, or none
abbrev pub held_in : Payload → Option (List ℕ)
held_in payload = then_some payload.gathering.holds payload.bytes

-- a body of which this was read goes on past the limit
abbrev pub IsPast : ℕ → List ℕ → Body → Type 0
IsPast limit front body = limit < length (front ++ payload_of body)

-- the body is longer than what is gathered of one (RFC 9110, section 15.5.14)
abbrev pub too_large : Error
too_large = record { kind = ContentTooLarge; retry = false }

-- why a run of payload isn't noted: there is no memory for one within the limit, or it goes past it
abbrev pub KeepFault : Payload → List ℕ → Error → Type 0
KeepFault payload run error =
    ((error ≡ no_memory) × (0 < length run)
    × (length (payload.bytes ++ run) ≤ payload.gathering.limit))
    ⊎ ((error ≡ too_large) × (payload.gathering.limit < length (payload.bytes ++ run)))

-- why nothing more was read of the bytes of a body
pub record TakeFault (payload : Payload) (reader : BodyReader) (bytes : List ℕ) (error : Error) : Type 0 where
  pub run : List ℕ
  pub next : IsNextRun reader bytes run
  pub fault : KeepFault payload run error

-- the bytes that were read
abbrev pub bytes_of : Held → List ℕ
bytes_of (held.Whole bytes) = bytes
bytes_of (held.Passed passed count) = passed

abbrev pub is_held : Held → Bool
is_held (held.Whole bytes) = true
is_held (held.Passed passed count) = false

-- those that memory doesn't hold are counted
abbrev pub IsCounted : Held → Type 0
IsCounted (held.Whole bytes) = Unit {0}
IsCounted (held.Passed passed count) = count ≡ length passed
