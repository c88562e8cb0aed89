-- What steps of a connection leave, one after the other.
use Rattle.std.specs.Prelude.{◌≡◌, ℕ, ◌+◌, ◌*◌, ◌<◌, ◌≤◌, ◌==◌, length, Bool, true, false, Option, Some, None, if◌then◌else◌}
use Rattle.h1_app.specs.Words.{End, Waiting, LinkState, Stage, Outcome, Exchange, EndsBy, Filters, Extends, JoinAlone, replies}
use Rattle.h1_error.specs.declared.progress.Waiting.TheVariants.{Budget}
use Rattle.h1_app.specs.declared.exchange.Stage.TheVariants as stage
use Rattle.h1_app.specs.declared.exchange.Outcome.TheVariants as outcome
use Rattle.h1_app.specs.Accounted.{Accounted}
use Rattle.h1_app.specs.BodyTimes.{BodyInTime}
use Rattle.h1_app.specs.Step.{MovesWithin}
use Rattle.h1_app.specs.Pace.{rank, ahead}
use Rattle.h1_app.specs.Outcome.{WaitsOn}
use Rattle.h1_app.specs.Leaves.{Leaves, LeavesOn}
use Rattle.h1_app.specs.View.{View, entries}
use Rattle.h1_app.specs.Waits.{still}

abbrev pub outcome_end : Outcome → Option End
outcome_end outcome.Done = None
outcome_end (outcome.Waits what) = None
outcome_end (outcome.Ends reason) = Some reason

-- what a step leaves of its link, and of the exchange that is last
abbrev pub LeavesBy : {L J C : Type 0} → (L → LinkState) → Exchange L J C → Exchange L J C
    → Outcome → Type 0
LeavesBy state old new result = Leaves (state old.session.link) (state new.session.link)
    new.transcript.last (outcome_end result)

-- a spent budget is what is waited for
abbrev pub waiting_for : Option ℕ → Waiting → Waiting
waiting_for None what = what
waiting_for (Some left) what = if left == 0 then Budget else what

-- this holds since each state of the link from which on the view's exchanges account for all bytes
abbrev pub AccountedFrom : {L C A J : Type 0} → (L → LinkState) → View L C A J → (LinkState → Type 0)
    → Type 0
AccountedFrom state at P =
    (before : LinkState) → Accounted state before at.session at.done at.last → P before

-- the connection went on from one view to the other
pub record Gone {L C A J : Type 0} (state : L → LinkState) (same_plan : L → L → Type 0) (now : ℕ)
    (shutdown : Bool) (from to : View L C A J) : Type 0 where
  pub served : to.served ≡ from.served
  pub terms : to.terms ≡ from.terms
  pub plan : same_plan from.session.link to.session.link
  pub moves : MovesWithin state from.session to.session
  pub accounted : AccountedFrom state from (λ before. Accounted state before to.session to.done to.last)
  -- an exchange that another one followed was alone, or pipelining was on
  pub alone : AccountedFrom state from
      (λ before. JoinAlone before (state from.session.link) from.done to.done)
  pub extends : Extends now shutdown (state from.session.link) (state to.session.link)
      (entries from) (entries to)
  pub longer : length from.done ≤ length to.done
  pub body : BodyInTime now from.session.body.since.read to.session.body.since.read from.last to.last

-- whether the connection waits or ends
abbrev pub stops : Outcome → Bool
stops outcome.Done = false
stops _ = true

abbrev pub one_where : Bool → ℕ
one_where false = 0
one_where true = 1

-- How many link calls that move no byte the exchanges allow for: three each of those before the
-- last, and those of the stages of the last that are over; at a stop three of the last too, and one
-- more.
abbrev pub still_calls : {L C A J : Type 0} → View L C A J → Bool → ℕ
still_calls at false = 3 * length at.done + still at.stage
still_calls at true = 3 * length (entries at) + 1

-- what steps leave of which the last one stops, or goes on
pub record Turned {L C A J : Type 0} (state : L → LinkState) (same_plan : L → L → Type 0) (now : ℕ)
    (shutdown : Bool) (from to : View L C A J) (stop : Bool) : Type 0 where
  pub gone : Gone state same_plan now shutdown from to
  -- reads that were not ready: one for each reply that was made, and one more at a stop
  pub reads_not_ready : (state to.session.link).read_waits + replies (entries from)
      ≤ (state from.session.link).read_waits + replies (entries to) + one_where stop
  -- link calls that moved no byte
  pub others : (state to.session.link).others + still_calls from false
      ≤ (state from.session.link).others + still_calls to stop
  pub leaves : LeavesOn state from to

-- a job that is asked next began in the last step
abbrev pub JobNew : {J : Type 0} → (J → Type 0) → Stage J → Type 0
JobNew begins (stage.Answer job) = begins job
JobNew begins _ = Unit {0}

-- why a step goes on, waits or ends
abbrev pub TurnCause : {L C A J : Type 0} → Filters → (L → LinkState) → (J → Type 0) → (J → ℕ)
    → View L C A J → View L C A J → Outcome → Type 0
TurnCause filters state begins pends from to outcome.Done =
    (ahead to.session.budget to.stage < ahead from.session.budget from.stage)
    × (length to.done ≡ length from.done → rank to.stage < rank from.stage)
    × JobNew begins to.stage
TurnCause filters state begins pends from to (outcome.Waits what) =
    (to.done ≡ from.done)
    × WaitsOn state pends from.session to.session to.last from.stage to.stage what
TurnCause filters state begins pends from to (outcome.Ends reason) =
    (to.done ≡ from.done) × AccountedFrom state to (λ before.
    EndsBy filters before (state from.session.link) (state to.session.link) to.done to.last
    reason)
