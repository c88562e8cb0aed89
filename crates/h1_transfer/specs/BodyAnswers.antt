-- What a read of a body answers, and what is noted of it (RFC 9112, sections 6 and 8).
use Rattle.std.specs.Prelude.{◌≡◌, ℕ, ◌<◌, ◌⊎◌, List, [], length, Bool, true, false, Option, Some, None, option_map, Result, Ok, Err}
use Rattle.h1_transfer.specs.Words.{Poll, Ready, Pending, Error, ErrorType, LinkState, Rose, whole, broken, reads, BodyReader, BodyState, Payload}
use Rattle.h1_error.specs.declared.error.ErrorType.TheVariants as kind
use Rattle.h1_transfer.specs.BodyErrors.{SaysOfBody}
use Rattle.h1_transfer.specs.Decoding.{GoesPast, Lacks, MayStarve}

-- the error of this kind, which isn't for a retry
abbrev pub error_of : ErrorType → Error
error_of kind = record { kind = kind; retry = false }

-- when each refusal of the body comes
abbrev pub RefusesBody : LinkState → LinkState → Option Payload → BodyReader → List ℕ → ErrorType
    → Type 0
RefusesBody before now kept reader received kind = SaysOfBody (reads reader [] ≡ broken [])
    ((now.ended ≡ true) × Lacks reader received)
    (Rose before.read_faults now.read_faults × Lacks reader received)
    (Rose before.read_waits now.read_waits × Lacks reader received)
    (GoesPast kept reader received) (MayStarve before now kept reader received) kind

-- every refusal but out of memory is answered again
abbrev pub refused_for_good : Error → Option Error
refused_for_good error = kept_refusal error error.kind where
  kept_refusal : Error → ErrorType → Option Error
  kept_refusal error kind.NoMemory = None
  kept_refusal error _ = Some error

-- What each later read of the body answers after a refusal: this again. After out of memory that is
-- so only where a caller keeps the payload, for whom the body has failed.
abbrev pub refused_behind : Option Payload → Error → Option Error
refused_behind kept error = by_kind error.kind where
  by_kind : ErrorType → Option Error
  by_kind kind.NoMemory = option_map (λ _. error) kept
  by_kind _ = Some error

-- no read of the link was pending
pub record IsReadAtOnce (before now : LinkState) (was : Bool) (new : BodyState) : Type 0 where
  pub waits : new.waits ≡ was
  pub link_waits : now.read_waits ≡ before.read_waits

-- a read that waited too long is noted as one that is pending is
abbrev pub IsReadSo : LinkState → LinkState → Bool → BodyState → ErrorType → Type 0
IsReadSo before now was new kind.ReadTimedout = new.waits ≡ true
IsReadSo before now was new _ = IsReadAtOnce before now was new

-- when each answer of a read of a part comes; a read that was pending is noted
abbrev pub PartAnswer : LinkState → LinkState → Bool → BodyState → List ℕ → List ℕ → ℕ
    → Poll (Result (Option (List ℕ)) Error) → Type 0
PartAnswer before now was new received payload left (Ready (Ok (Some piece))) =
    (payload ≡ piece) × (0 < length payload) × (new.refused ≡ None)
    × IsReadAtOnce before now was new
PartAnswer before now was new received payload left (Ready (Ok None)) =
    (payload ≡ []) × (reads new.reader [] ≡ whole [] 0) × (new.refused ≡ None)
    × IsReadAtOnce before now was new
PartAnswer before now was new received payload left (Ready (Err error)) =
    (payload ≡ []) × (new.refused ≡ refused_behind new.kept error)
    × RefusesBody before now new.kept new.reader received error.kind × IsReadSo before now was new error.kind
    × (error.retry ≡ false)
PartAnswer before now was new received payload left Pending =
    (payload ≡ []) × Lacks new.reader received × (new.refused ≡ None) × (new.waits ≡ true)
    × (Rose before.read_waits now.read_waits ⊎ (left ≡ 0))

-- when each answer of a read of the rest comes
abbrev pub RestAnswer : LinkState → LinkState → BodyState → List ℕ → ℕ
    → Poll (Result (Unit {0}) Error) → Type 0
RestAnswer before now new received left (Ready (Ok done)) =
    (reads new.reader [] ≡ whole [] 0) × (new.refused ≡ None)
    × (now.read_waits ≡ before.read_waits)
RestAnswer before now new received left (Ready (Err error)) =
    (new.refused ≡ refused_for_good error)
    × RefusesBody before now new.kept new.reader received error.kind
    × (error.retry ≡ false)
RestAnswer before now new received left Pending =
    Lacks new.reader received × (new.refused ≡ None)
    × (Rose before.read_waits now.read_waits ⊎ (left ≡ 0))
