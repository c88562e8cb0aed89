-- Limits of time: since when an operation waits for its link without moving bytes, and whether that
-- is too long. All times are milliseconds.
use Rattle.std.specs.Prelude.{◌≡◌, ℕ, zero, suc, ◌+◌, ◌⊎◌, nat_le, Bool, true, false, Option, Some, None, Result, Ok, Err}
use Rattle.h1_transfer.specs.Words.{Poll, Ready, Pending, Error, ErrorType}
use Rattle.h1_error.specs.declared.error.ErrorType.TheVariants as kind
use Rattle.h1_transfer.specs.declared.deadline.Deadline.{Deadline}
use Rattle.h1_transfer.specs.declared.deadline.Went.{Went}
use Rattle.h1_transfer.specs.declared.deadline.Went.TheVariants as w

-- what a call finds: how long its operation may wait, whether it moved bytes in this call, and since
-- when it waited before
pub record Wait : Type 0 where
  pub deadline : Deadline
  pub moved : Bool
  pub since : Option ℕ

-- what a call finds that moved bytes, or didn't
abbrev pub wait_with : Deadline → Bool → Option ℕ → Wait
wait_with deadline moved since = record { deadline = deadline; moved = moved; since = since }

-- since when a call waits that does so: since now, where bytes moved in it or its operation didn't
-- wait before
abbrev pub start_of : Wait → ℕ
start_of wait = start wait.deadline.moment wait.moved wait.since where
  start : ℕ → Bool → Option ℕ → ℕ
  start moment true since = moment
  start moment false None = moment
  start moment false (Some before) = before

-- what a call that doesn't wait leaves of a wait before it: nothing once bytes moved
abbrev pub left_of : Wait → Option ℕ
left_of wait = left wait.moved wait.since where
  left : Bool → Option ℕ → Option ℕ
  left true since = None
  left false since = since

-- so many milliseconds have passed since a moment
abbrev pub is_reached : ℕ → ℕ → ℕ → Bool
is_reached start limit moment = nat_le (start + limit) moment

-- the limit of a wait that began at this moment is reached
abbrev pub is_late : Deadline → ℕ → Bool
is_late deadline start = passed deadline.limit start deadline.moment where
  passed : Option ℕ → ℕ → ℕ → Bool
  passed None start moment = false
  passed (Some limit) start moment = is_reached start limit moment

-- the limit is reached for a call that waits
abbrev pub is_over : Wait → Bool
is_over wait = is_late wait.deadline (start_of wait)

-- since when the operation waits behind a call that went so
abbrev pub since_behind : Went → Wait → Option ℕ
since_behind w.Done wait = None
since_behind w.Waited wait = Some (start_of wait)
since_behind w.Stopped wait = left_of wait

-- the call waits for its link
abbrev pub is_waiting : Went → Bool
is_waiting w.Waited = true
is_waiting _ = false

-- How a call with this answer went, which stopped with so many calls left: it waited where it could
-- have gone on.
abbrev pub went_so : {T : Type 0} → Poll (Result T Error) → ℕ → Went
went_so (Ready (Ok value)) left = w.Done
went_so (Ready (Err error)) left = w.Stopped
went_so Pending zero = w.Stopped
went_so Pending (suc left) = w.Waited

-- an error that tells that a limit was reached
abbrev pub is_timeout : ErrorType → Bool
is_timeout kind.ReadTimedout = true
is_timeout kind.WriteTimedout = true
is_timeout _ = false

-- what is noted of a call by its answer: it ended, waits within its limit or beyond it, or stopped
pub record Noted : Type 1 where
  pub ended : Type 0
  pub waited : Bool → Type 0
  pub stopped : Type 0

-- what a call that ended with an error notes
abbrev pub FailsInTime : Noted → Bool → Type 0
FailsInTime noted true = noted.waited true
FailsInTime noted false = noted.stopped

-- When a call waits: it is pending because the link was not ready and its limit isn't reached, or
-- because its budget is spent, and it times out exactly where the limit is reached.
abbrev pub IsTimed : {T : Type 0} → Noted → ℕ → Poll (Result T Error) → Type 0
IsTimed noted left (Ready (Ok value)) = noted.ended
IsTimed noted left (Ready (Err error)) = FailsInTime noted (is_timeout error.kind)
IsTimed noted left Pending = noted.waited false ⊎ ((left ≡ 0) × noted.stopped)

-- a call waited and noted it, and its limit is reached, or isn't
pub record Waited (link_waited : Type 0) (wait : Wait) (since : Option ℕ) (late : Bool)
    : Type 0 where
  pub link : link_waited
  pub noted : since ≡ Some (start_of wait)
  pub judged : is_over wait ≡ late

-- what is noted of a call whose operation has one limit
abbrev pub noted_since : Type 0 → Wait → Option ℕ → Noted
noted_since link_waited wait since = record {
  ended = since ≡ None;
  waited = Waited link_waited wait since;
  stopped = since ≡ left_of wait;
}
