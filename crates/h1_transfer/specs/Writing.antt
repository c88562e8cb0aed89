-- What sending the bytes that are owed comes to (RFC 9112, sections 4 to 7).
use Rattle.std.specs.Prelude.{◌≡◌, ℕ, ◌+◌, ◌-◌, ◌^◌, min, ◌≤◌, ◌<◌, ◌⊎◌, List, [], length, Option, Some, Result, Ok, Err, false}
use Rattle.h1_transfer.specs.Words.{Poll, Ready, Pending, Error, ErrorType, LinkState, Rose, FlushStep, Outgoing, Step, Free, Sending, Delivery}
use Rattle.h1_error.specs.declared.error.ErrorType.TheVariants as kind
use Rattle.h1_link.specs.declared.link.FlushStep.TheVariants as flush
use Rattle.h1_transfer.specs.declared.sending.Sending.TheVariants as s
use Rattle.h1_transfer.specs.declared.delivering.Delivery.TheVariants as delivery

-- when each answer comes, with the bytes that are still owed then
abbrev pub SendCause : LinkState → LinkState → List ℕ → ℕ → Sending → Type 0
SendCause before now owed left s.All = owed ≡ []
SendCause before now owed left s.NotReady =
    Rose before.write_waits now.write_waits × (0 < length owed)
SendCause before now owed left s.Spent = (left ≡ 0) × (0 < length owed)
SendCause before now owed left s.Failed = Rose before.write_faults now.write_faults
SendCause before now owed left s.NoMemory = 0 < length owed

-- what is still to be done for a write: bytes are owed, or a flush where one is asked for
abbrev pub Owes : Delivery → List ℕ → Type 0
Owes delivery.Sent owed = 0 < length owed
Owes delivery.Flushed owed = Unit {0}

-- what a finished write asked for
abbrev pub IsDelivered : Delivery → LinkState → Type 0
IsDelivered delivery.Sent now = Unit {0}
IsDelivered delivery.Flushed now = now.bytes_out ≤ now.flushed

-- when each answer of a flush comes, where one is asked for
abbrev pub FlushCause : Delivery → LinkState → LinkState → FlushStep → Type 0
FlushCause how before now flush.Done = IsDelivered how now
FlushCause how before now flush.NotReady = Owes how [] × Rose before.write_waits now.write_waits
FlushCause how before now flush.Failed = Rose before.write_faults now.write_faults

-- the count of bytes that were written, where of what was owed these are still owed
abbrev pub sent_after : ℕ → List ℕ → List ℕ → ℕ
sent_after sent before owed = min (sent + (length before - length owed)) (2 ^ 64 - 1)

-- Nothing is owed, and no write is in progress. The refusal from before, where there is one, stays.
pub record OwesNothing (was : Option Error) (outgoing : Outgoing) : Type 0 where
  pub owed : outgoing.owed ≡ []
  pub free : outgoing.step ≡ Free
  pub refused : outgoing.refused ≡ was

-- a write that waits: bytes or a flush are owed, and the same call goes on with this step
pub record Waits (was : Option Error) (before now : LinkState) (outgoing : Outgoing) (step : Step)
    (left : ℕ) : Type 0 where
  pub at_step : outgoing.step ≡ step
  pub refused : outgoing.refused ≡ was
  pub why : Rose before.write_waits now.write_waits ⊎ (left ≡ 0)

-- When a write that was taken up is refused. A fault of the link leaves no write in progress, and
-- is answered by every later one; out of memory leaves this one in progress.
abbrev pub RefusesWrite : Option Error → LinkState → LinkState → Outgoing → Step → Error
    → ErrorType → Type 0
RefusesWrite was before now new step error kind.WriteError =
    Rose before.write_faults now.write_faults × (new.step ≡ Free) × (new.refused ≡ Some error)
RefusesWrite was before now new step error kind.NoMemory =
    (new.step ≡ step) × (new.refused ≡ was) × (0 < length new.owed)
RefusesWrite was before now new step error _ = ⊥

-- what delivering the write in progress, which is at this step, came to
abbrev pub DeliveryAnswer : Delivery → Option Error → LinkState → LinkState → Outgoing → Step → ℕ
    → Poll (Result (Unit {0}) Error) → Type 0
DeliveryAnswer how was before now new step left (Ready (Ok done)) =
    OwesNothing was new × IsDelivered how now
DeliveryAnswer how was before now new step left Pending =
    Waits was before now new step left × Owes how new.owed
DeliveryAnswer how was before now new step left (Ready (Err error)) =
    RefusesWrite was before now new step error error.kind × (error.retry ≡ false)

-- the answer of a write that says a count once it is delivered
abbrev pub with_count : Poll (Result (Unit {0}) Error) → Option ℕ → Poll (Result (Option ℕ) Error)
with_count (Ready (Ok done)) count = Ready (Ok count)
with_count (Ready (Err error)) count = Ready (Err error)
with_count Pending count = Pending
