-- What the bytes that are received give of a body (RFC 9112, sections 6 and 7.1).
use Rattle.std.specs.Prelude.{◌≡◌, ℕ, ◌<◌, List, [], ◌++◌, length, Option, Some, None, option_map, Result, Ok, Err}
use Rattle.h1_error.specs.Memory.{no_memory}
use Rattle.h1_transfer.specs.Words.{Error, whole, broken, reads, BodyReader, FeedState, TakeStep, Payload, grown}
use Rattle.h1_body.specs.Payload.{TakeFault}
use Rattle.h1_body.specs.Takes.{HasNextRun, Takes, payload_bytes}
use Rattle.h1_body.specs.declared.fed.Taken.{Taken}
use Rattle.h1_body.specs.declared.fed.FeedState.TheVariants as s
use Rattle.h1_transfer.specs.Decoding.{Decoded, GoesPast, Lacks, StaysWithin}
use Rattle.h1_transfer.specs.declared.taking.TakeStep.TheVariants as t

-- received bytes are used from the front, and their payload is kept where payload is kept
pub record Uses (old new : List ℕ) (reader behind : BodyReader) (kept keeps : Option Payload)
    (payload : List ℕ) : Type 0 where
  pub used : List ℕ
  pub bytes : old ≡ used ++ new
  pub decoded : Decoded reader behind used payload
  pub keeps_payload : keeps ≡ option_map (grown payload) kept

-- the payload that was taken
abbrev pub taken_payload : TakeStep → List ℕ
taken_payload (t.Piece bytes) = bytes
taken_payload t.Done = []
taken_payload t.Broken = []
taken_payload t.Lacks = []
taken_payload t.TooLarge = []

-- payload is handed out before the state after it is told
abbrev pub IsJudged : FeedState → Option (List ℕ) → TakeStep → Type 0
IsJudged state payload (t.Piece bytes) = payload ≡ Some bytes
IsJudged state payload t.Done = (payload ≡ None) × (state ≡ s.Done)
IsJudged state payload t.Broken = (payload ≡ None) × (state ≡ s.Broken)
IsJudged state payload t.Lacks = (payload ≡ None) × (state ≡ s.More)
IsJudged state payload t.TooLarge = ⊥

-- why no payload was taken: memory ran out for what comes next, or it goes past the limit of what
-- is kept
abbrev pub FaultOf : Option Payload → BodyReader → List ℕ → Error → Type 0
FaultOf None reader received error = (error ≡ no_memory) × HasNextRun reader received
FaultOf (Some kept) reader received error = TakeFault kept reader received error

-- payload is taken and kept where payload is kept, or nothing changes
abbrev pub TakesPayload : List ℕ → List ℕ → BodyReader → BodyReader → Option Payload
    → Option Payload → Result Taken Error → Type 0
TakesPayload old new reader behind kept keeps (Ok taken) = Takes reader behind old new taken
    × (keeps ≡ option_map (grown (payload_bytes taken.payload)) kept)
TakesPayload old new reader behind kept keeps (Err error) =
    FaultOf kept reader old error × (new ≡ old) × (behind ≡ reader) × (keeps ≡ kept)

-- when each answer comes
abbrev pub TakeCause : Option Payload → BodyReader → List ℕ → TakeStep → Type 0
TakeCause kept reader received (t.Piece bytes) = 0 < length bytes
TakeCause kept reader received t.Done = reads reader [] ≡ whole [] 0
TakeCause kept reader received t.Broken = reads reader [] ≡ broken []
TakeCause kept reader received t.Lacks = Lacks reader received
TakeCause kept reader received t.TooLarge = GoesPast kept reader received

-- nothing is used of a body whose next run goes past the limit
abbrev pub LeavesTooLarge : TakeStep → List ℕ → List ℕ → Type 0
LeavesTooLarge t.TooLarge old new = new ≡ old
LeavesTooLarge _ old new = Unit {0}

-- received bytes are used for what the step says and for its cause, or nothing changes where memory
-- ran out
abbrev pub TakesBody : List ℕ → List ℕ → BodyReader → BodyReader → Option Payload → Option Payload
    → Result TakeStep Error → Type 0
TakesBody old new reader behind kept keeps (Ok taken) =
    Uses old new reader behind kept keeps (taken_payload taken) × TakeCause keeps behind new taken
    × LeavesTooLarge taken old new
TakesBody old new reader behind kept keeps (Err error) =
    (error ≡ no_memory) × StaysWithin kept reader old × (new ≡ old) × (behind ≡ reader)
    × (keeps ≡ kept)
