-- How long a connection waits for its link. All times are milliseconds.
use Rattle.std.specs.Prelude.{◌≡◌, ℕ, ◌*◌, ◌≤◌, length, ◌⊎◌, Bool, true, false, Option, Some, None}
use Rattle.h1_app.specs.Words.{End, Error, ErrorType, LinkState, Progress, Rose, SessionView, Entry, Stage, Outcome}
use Rattle.h1_error.specs.declared.error.ErrorType.TheVariants as kind
use Rattle.h1_error.specs.declared.progress.End.TheVariants as end
use Rattle.h1_error.specs.declared.progress.Progress.TheVariants as progress
use Rattle.h1_error.specs.declared.progress.Waiting.TheVariants as waiting
use Rattle.h1_server.specs.Times.{drain_limits}
use Rattle.h1_transcript.specs.declared.transcript.TheConstants.{KEEPALIVE_SECONDS}
use Rattle.h1_transfer.specs.Deadline.{Noted, Wait, is_over, noted_since}
use Rattle.h1_transfer.specs.ReadWaits.{is_drain_over, noted_rest}
use Rattle.h1_app.specs.declared.exchange.Outcome.TheVariants as outcome
use Rattle.h1_app.specs.Pace.{rank}
use Rattle.h1_app.specs.View.{View, work_of}
use Rattle.h1_app.specs.Work.{Work, reads_head, drains, writes_piece, untimed, work_at, work_on, head_since, drain_since, piece_since, IsUnwaited}

-- Bytes moved over the link, or none did. Its count tells, which stands still at 2^64 - 1.
abbrev pub HasMoved : Bool → LinkState → LinkState → Type 0
HasMoved true old new = Rose old.moves new.moves
HasMoved false old new = new.moves ≡ old.moves

-- a wait at this moment, of work that may wait so long
abbrev pub wait_at : ℕ → Option ℕ → Bool → Option ℕ → Wait
wait_at now limit moved since =
    record { deadline = record { moment = now; limit = limit }; moved = moved; since = since }

-- how long a head may wait
abbrev pub head_milliseconds : ℕ
head_milliseconds = KEEPALIVE_SECONDS * 1000

abbrev pub head_wait : ℕ → Bool → Work → Wait
head_wait now moved before = wait_at now (Some head_milliseconds) moved (head_since before)

-- What is noted at a moment of a work that goes on from `before`, which it is itself or which isn't
-- of its kind: that its link was not ready, since when it waits, and whether that is too long; or
-- what is left of a wait before it.
abbrev pub noted_of : ℕ → Bool → LinkState → LinkState → Work → Work → Noted
noted_of now moved old new before (reads_head since) =
    noted_since (Rose old.read_waits new.read_waits) (head_wait now moved before) since
noted_of now moved old new before (drains times since) =
    noted_rest (Rose old.read_waits new.read_waits) (drain_limits times now) moved
    (drain_since before) since
noted_of now moved old new before (writes_piece limit since) =
    noted_since (Rose old.write_waits new.write_waits)
    (wait_at now limit moved (piece_since before)) since
noted_of now moved old new before untimed =
    record { ended = Unit {0}; waited = λ late. Unit {0}; stopped = Unit {0} }

-- Work that waits: its link was not ready and it isn't late, or no more link calls may move bytes
-- and a wait before it is left.
pub record WaitsInTime (now : ℕ) (old new : LinkState) (before work : Work) (spent : Type 0)
    : Type 0 where
  pub moved : Bool
  pub counted : HasMoved moved old new
  pub waits : (noted_of now moved old new before work).waited false
      ⊎ (spent × (noted_of now moved old new before work).stopped)

-- a head was awaited for its minute
abbrev pub IsLateHead : ℕ → Bool → Work → Work → Type 0
IsLateHead now moved before (reads_head since) = is_over (head_wait now moved before) ≡ true
IsLateHead now moved before _ = ⊥

-- Work that fails with this error waited as long as it may, a head where no exchange is begun. An
-- error of work without a limit is that of the request's body, which the application read.
abbrev pub IsLate : ℕ → Bool → Work → Work → Option Entry → Error → Type 0
IsLate now moved before (reads_head since) None error =
    is_over (head_wait now moved before) ≡ true
IsLate now moved before (drains times since) (Some e) error =
    is_drain_over (drain_limits times now) moved (drain_since before) ≡ true
IsLate now moved before (writes_piece limit since) (Some e) error =
    is_over (wait_at now limit moved (piece_since before)) ≡ true
IsLate now moved before untimed (Some e) error = e.body_error ≡ Some error
IsLate now moved before _ _ error = ⊥

-- an error tells that a limit was reached only where that is so
abbrev pub FailsInTime : Type 0 → ErrorType → Type 0
FailsInTime late kind.ReadTimedout = late
FailsInTime late kind.WriteTimedout = late
FailsInTime late _ = Unit {0}

-- A connection finishes where its link ended, or where a head was awaited for its minute, and fails
-- for a time only where that is over.
abbrev pub EndsAsTimed : ℕ → Bool → Work → Work → LinkState → Option Entry → End → Type 0
EndsAsTimed now moved before work link last end.Finished =
    (link.ended ≡ true) ⊎ IsLateHead now moved before work
EndsAsTimed now moved before work link last (end.Failed error) =
    FailsInTime (IsLate now moved before work last error) error.kind
EndsAsTimed now moved before work link last _ = Unit {0}

-- work that ends, with the connection
pub record EndsInTime (now : ℕ) (old new : LinkState) (before work : Work) (last : Option Entry)
    (reason : End) : Type 0 where
  pub moved : Bool
  pub counted : HasMoved moved old new
  pub ends : EndsAsTimed now moved before work new last reason

-- What a step at a moment leaves of the waits, from the exchange that was last to the one that is:
-- work that begins hasn't waited. A step that stops doesn't go back in its exchange.
abbrev pub StepsInTime : {L C J : Type 0} → (L → LinkState) → ℕ → Stage J → Stage J
    → SessionView L C → SessionView L C → Option Entry → Option Entry → Outcome → Type 0
StepsInTime state now from to old new first last outcome.Done = IsUnwaited (work_at to last new)
StepsInTime state now from to old new first last (outcome.Waits what) =
    (rank to ≤ rank from)
    × WaitsInTime now (state old.link) (state new.link) (work_at from first old)
    (work_at to last new) (new.budget ≡ Some 0)
StepsInTime state now from to old new first last (outcome.Ends reason) =
    (rank to ≤ rank from)
    × EndsInTime now (state old.link) (state new.link) (work_at from first old)
    (work_at to last new) last reason

-- the same of a step of a connection
abbrev pub TurnsInTime : {L C A J : Type 0} → (L → LinkState) → ℕ → View L C A J → View L C A J
    → Outcome → Type 0
TurnsInTime state now from to result =
    StepsInTime state now from.stage to.stage from.session to.session from.last to.last result

-- what the connection did before a poll, where it still does it
abbrev pub work_before : {L C A J : Type 0} → View L C A J → View L C A J → Work
work_before from to = work_on (length from.done) (length to.done) (work_of from)

-- How long a poll at a moment waits, or has waited where it ends the connection. Work that the
-- connection did before the poll, and does after it, is all that the poll did, so bytes that moved
-- are those of this work.
abbrev pub IsTimely : {L C A J : Type 0} → (L → LinkState) → ℕ → View L C A J → View L C A J
    → Progress → Type 0
IsTimely state now from to (progress.Pending what) =
    WaitsInTime now (state from.session.link) (state to.session.link) (work_before from to)
    (work_of to) (what ≡ waiting.Budget)
IsTimely state now from to (progress.Ready reason) =
    EndsInTime now (state from.session.link) (state to.session.link) (work_before from to)
    (work_of to) to.last reason
