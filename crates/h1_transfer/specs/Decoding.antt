-- Reading a part of a body (RFC 9112, sections 6 and 8).
use Rattle.std.specs.Prelude.{◌≡◌, ℕ, ◌<◌, ◌≤◌, ◌⊎◌, List, [], ◌++◌, length, true, Option, Some, None, option_map}
use Rattle.h1_transfer.specs.Words.{LinkState, Rose, Body, whole, unfinished, broken, ahead, reads, BodyReader, BodyRead, BodyStop, Payload, grown}
use Rattle.h1_body.specs.Payload.{held_in}
use Rattle.h1_body.specs.Takes.{HasNextRun, IsNextRun}
use Rattle.h1_transfer.specs.Moved.{Received}
use Rattle.h1_transfer.specs.declared.reading_body.BodyRead.TheVariants as b
use Rattle.h1_transfer.specs.declared.reading_body.BodyStop.TheVariants as s

-- bytes that are used from the front become payload, and the reader goes on after them
pub record Decoded (old new : BodyReader) (used payload : List ℕ) : Type 0 where
  pub reads : (more : List ℕ)
      → reads old (used ++ more) ≡ ahead payload (length used) (reads new more)

-- nothing of the body is left among the received bytes, and the body isn't at its end
abbrev pub Lacks : BodyReader → List ℕ → Type 0
Lacks reader received = (received ≡ []) × (reads reader [] ≡ unfinished [])

-- bytes are a part of a body, which goes on after them
abbrev pub IsUnfinished : Body → Type 0
IsUnfinished (whole payload n) = ⊥
IsUnfinished (unfinished payload) = Unit {0}
IsUnfinished (broken payload) = ⊥

-- the bytes that were noted of a body, where payload is kept
abbrev pub noted_of : Option Payload → List ℕ
noted_of None = []
noted_of (Some kept) = kept.bytes

-- those that memory holds
abbrev pub held_of : Option Payload → Option (List ℕ)
held_of None = None
held_of (Some kept) = held_in kept

-- the run of payload that comes next goes past the limit of what is kept
abbrev pub GoesPast : Option Payload → BodyReader → List ℕ → Type 0
GoesPast None reader received = ⊥
GoesPast (Some kept) reader received = (run : List ℕ) × IsNextRun reader received run
    × (kept.gathering.limit < length (kept.bytes ++ run))

-- a run of payload comes next, and it stays within the limit
abbrev pub StaysWithin : Option Payload → BodyReader → List ℕ → Type 0
StaysWithin None reader received = HasNextRun reader received
StaysWithin (Some kept) reader received = (run : List ℕ) × IsNextRun reader received run
    × (0 < length run) × (length (kept.bytes ++ run) ≤ kept.gathering.limit)

-- memory ran out for more bytes of the link, whose end wasn't met, or for a run within the limit
abbrev pub MayStarve : LinkState → LinkState → Option Payload → BodyReader → List ℕ → Type 0
MayStarve before now kept reader received =
    ((now.ended ≡ before.ended) × Lacks reader received) ⊎ StaysWithin kept reader received

-- when the reading of a body stops, with the bytes that are received and not used then
abbrev pub StopCause : LinkState → LinkState → Option Payload → BodyReader → List ℕ → ℕ → BodyStop
    → Type 0
StopCause before now kept reader received left s.Done =
    (reads reader [] ≡ whole [] 0) × (now.read_waits ≡ before.read_waits)
StopCause before now kept reader received left s.Broken =
    (reads reader [] ≡ broken []) × (now.read_waits ≡ before.read_waits)
StopCause before now kept reader received left s.Cut =
    (now.ended ≡ true) × Lacks reader received × (now.read_waits ≡ before.read_waits)
StopCause before now kept reader received left s.NotReady =
    Rose before.read_waits now.read_waits × Lacks reader received
StopCause before now kept reader received left s.Spent = (left ≡ 0) × Lacks reader received
StopCause before now kept reader received left s.Failed =
    Rose before.read_faults now.read_faults × Lacks reader received
    × (now.read_waits ≡ before.read_waits)
StopCause before now kept reader received left s.TooLarge =
    GoesPast kept reader received × (now.read_waits ≡ before.read_waits)
StopCause before now kept reader received left s.NoMemory =
    MayStarve before now kept reader received × (now.read_waits ≡ before.read_waits)

-- when each answer of a body read comes
abbrev pub BodyCause : LinkState → LinkState → Option Payload → BodyReader → List ℕ → ℕ → BodyRead
    → Type 0
BodyCause before now kept reader received left (b.Piece bytes) =
    (0 < length bytes) × (now.read_waits ≡ before.read_waits) × (now.ended ≡ before.ended)
BodyCause before now kept reader received left (b.Stopped stop) =
    StopCause before now kept reader received left stop

-- One read of a part of a body: what is used leaves the front of all bytes that came.
pub record ReadsBody
    (before now : LinkState) (old new : List ℕ) (reader behind : BodyReader)
    (kept keeps : Option Payload) (budget left : ℕ) (payload : List ℕ) : Type 0 where
  pub used : List ℕ
  pub received : Received before now old (used ++ new) budget left
  pub decoded : Decoded reader behind used payload
  pub keeps_payload : keeps ≡ option_map (grown payload) kept

-- the payload that an answer hands out
abbrev pub payload_of : BodyRead → List ℕ
payload_of (b.Piece bytes) = bytes
payload_of (b.Stopped stop) = []
