-- What each step of an exchange asks for, and what it leaves.
use Rattle.std.specs.Prelude.{◌≡◌, ℕ, ◌<◌, List, Bool, IsSome, IfSome, option_to_list, Option, ◌-◌, ◌≤◌, ◌⊎◌, option_map, [], None}
use Rattle.h1_app.specs.Words.{YEAR_10000, LinkState, Reply, Entry, Exchange, Outcome, Given, Filters, Rules, RefusesLast, OfLast, BeginsIn, BeginsWith, IsAllowed, ExtendsLast, Moved, SessionView, Stage}
use Rattle.h1_application.specs.Application.{Runs}
use Rattle.h1_app.specs.Accounted.{Accounted}
use Rattle.h1_app.specs.BodyTimes.{BodyInTime}
use Rattle.h1_app.specs.Sound.{SoundStage, IsKept}
use Rattle.h1_app.specs.Outcome.{OutcomeCause}
use Rattle.h1_app.specs.Timely.{StepsInTime}
use Rattle.h1_app.specs.Waits.{FewReadsNotReady, OthersFew}
use Rattle.h1_app.specs.declared.exchange.Stage.TheVariants as stage
use Rattle.h1_app.specs.declared.exchange.Outcome.TheVariants as outcome

-- what was moved over the link, within the budget
pub record MovesWithin {L C : Type 0} (state : L → LinkState)
    (old new : SessionView L C) : Type 0 where
  pub read : List ℕ
  pub wrote : List ℕ
  pub spent : ℕ
  pub moved : Moved (state old.link) (state new.link) read wrote spent
  pub budget : new.budget ≡ option_map (λ left. left - spent) old.budget
  pub within : IfSome old.budget (λ left. spent ≤ left)
  -- what the caller keeps with the connection stays
  pub context : new.context ≡ old.context

-- where the job of the stage comes from: it was there, or it began in this step
abbrev pub JobFrom : {J : Type 0} → (J → Type 0) → (J → ℕ) → Stage J → Stage J → Type 0
JobFrom {J} begins pends from (stage.Answer job) =
    ((before : J) × (from ≡ stage.Answer before) × (pends before ≤ pends job)) ⊎ begins job
JobFrom begins pends from _ = Unit {0}

-- what holds before each step
pub record StepReady {L C J : Type 0}
    (runs : Runs J)
    (now : ℕ) (x : Exchange L J C) : Type 0 where
  -- the stage stands where the session and the last exchange do
  pub sound : SoundStage runs x.session x.transcript.last x.stage
  -- the exchange says how much of its reply the session wrote
  pub kept : IfSome x.transcript.last (IsKept x.session)
  -- the poll has a budget
  pub budget : IsSome x.session.budget
  -- the moment can be written as a date
  pub moment : now < YEAR_10000

-- a filter refused in a step, which ends the connection; nothing that was taken up is owed
abbrev pub StepRefuses : {L C : Type 0} → Filters → SessionView L C → Option Entry → Outcome
    → Type 0
StepRefuses filters session last outcome.Done = ⊥
StepRefuses filters session last (outcome.Waits what) = ⊥
StepRefuses filters session last (outcome.Ends reason) = RefusesLast filters last reason
    × (session.reply.owed ≡ []) × OfLast last (λ e. e.sent_body ≡ None)

-- what each step leaves of the exchange that is last, and why it goes on, waits or ends
pub record Stepped {L C J : Type 0} (state : L → LinkState) (pends : J → ℕ)
    (rules : Rules)
    (runs : Runs J) (now : ℕ) (shutdown : Bool)
    (old new : Exchange L J C) (result : Outcome) : Type 0 where
  -- bytes moved only within the budget, and what the caller keeps stayed
  pub moves : MovesWithin state old.session new.session
  -- what was read and written since any moment is still the exchanges'
  pub accounted : (before : LinkState) (done : List Entry)
      → Accounted state before old.session done old.transcript.last
      → Accounted state before new.session done new.transcript.last
  pub allowed : IfSome new.transcript.last (IsAllowed rules)
  pub kept : IfSome new.transcript.last (IsKept new.session)
  -- the exchange that is last grew, or began
  pub extends : ExtendsLast now shutdown (state old.session.link)
      (state new.session.link) old.transcript.last new.transcript.last
  -- an exchange that began took what was set
  pub begins_with : BeginsWith old.session.settings new.session.settings
      old.transcript.last new.transcript.last
  -- and is held as the connection holds its exchanges
  pub begins_in : BeginsIn old.transcript.holding old.transcript.last new.transcript.last
  -- reads that were not ready
  pub reads_not_ready : FewReadsNotReady (state old.session.link) (state new.session.link)
      (option_to_list old.transcript.last) (option_to_list new.transcript.last) result
  -- since when a read of a body waits, and whether the body was refused for its time
  pub body : BodyInTime now old.session.body.since.read new.session.body.since.read
      old.transcript.last new.transcript.last
  -- what it leaves of the waits for the link
  pub timely : StepsInTime state now old.stage new.stage old.session new.session
      old.transcript.last new.transcript.last result
  -- why it goes on, waits or ends; a filter may have refused
  pub outcome : OutcomeCause state pends runs old.session new.session new.transcript.last old.stage
      new.stage result ⊎ StepRefuses rules.filters new.session new.transcript.last result

-- the same of a step in which no filter runs, whatever the filters are
abbrev pub SteppedBy : {L C J : Type 0} → (L → LinkState) → (J → ℕ) → (Given → Reply → Type 0)
    → Runs J → ℕ → Exchange L J C
    → Exchange L J C → Outcome → Type 0
SteppedBy state pends gives runs now old new result = (filters : Filters) (shutdown : Bool)
    → IfSome old.transcript.last (IsAllowed (record { gives = gives; filters = filters }))
    → Stepped state pends (record { gives = gives; filters = filters }) runs now shutdown old new
    result

-- what continues through each step: the exchanges that ended, the link's plan and the job
pub record Continues {L C J : Type 0} (state : L → LinkState) (same_plan : L → L → Type 0)
    (begins : J → Type 0) (pends : J → ℕ)
    (old new : Exchange L J C) (result : Outcome) : Type 0 where
  -- the exchanges that ended stay
  pub done : new.transcript.done ≡ old.transcript.done
  -- whether exchanges are kept
  pub holding : new.transcript.holding ≡ old.transcript.holding
  -- what is still to come from the link is planned as before
  pub plan : same_plan old.session.link new.session.link
  -- the job was there, or it began in this step
  pub job : JobFrom begins pends old.stage new.stage
  -- link calls that moved no byte: those that the stages allow for, and one more at a wait or an end
  pub others : OthersFew (state old.session.link)
      (state new.session.link) old.stage new.stage result
