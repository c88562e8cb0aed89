-- What serving a connection by one call leaves and answers.
use Rattle.std.specs.Prelude.{◌≡◌, ◌⊎◌, ℕ, ◌+◌, ◌*◌, ◌/◌, ◌<◌, ◌≤◌, List, [], ◌∷◌, length, true, false, Option, Some, None, IfSome}
use Rattle.h1_error.specs.declared.progress.End.{End}
use Rattle.h1_error.specs.declared.progress.Waiting.{Waiting}
use Rattle.h1_error.specs.declared.progress.Waiting.TheVariants as waiting
use Rattle.h1_error.specs.declared.progress.Progress.{Progress}
use Rattle.h1_error.specs.declared.progress.Progress.TheVariants as progress
use Rattle.h1_link.specs.Counts.{Rose, RoseBy, raised}
use Rattle.h1_link.specs.Later.{Later}
use Rattle.h1_link.specs.LinkState.{LinkState}
use Rattle.h1_transcript.specs.Entry.{Entry}
use Rattle.h1_transcript.specs.Ends.{EndCause, LacksSo, OfLast}
use Rattle.h1_transcript.specs.Entries.{replies}
use Rattle.h1_transcript.specs.Growth.{RefusedIn}
use Rattle.h1_transcript.specs.Refusals.{EndsBy}
use Rattle.h1_transcript.specs.Rules.{Filters}
use Rattle.h1_transcript.specs.Told.{ToldGrowth}
use Rattle.h1_transfer.specs.declared.budget.TheConstants.{CALL_BUDGET}
use Rattle.h1_app.specs.declared.exchange.Stage.{Stage}
use Rattle.h1_app.specs.declared.exchange.Stage.TheVariants as stage
use Rattle.h1_app.specs.Leaves.{NotesFault, WritesHeld, ReadsHeld, ShutBy}
use Rattle.h1_app.specs.Timely.{IsTimely}
use Rattle.h1_app.specs.View.{Served, View, work_of}
use Rattle.h1_app.specs.Work.{Work, reads_head, drains, writes_piece, untimed}
use Rattle.h1_echo.specs.declared.echo.EchoApp.{EchoApp}
use Rattle.h1_echo.specs.declared.echo.EchoJob.{EchoJob}
use Rattle.h1_modules.specs.declared.no_modules.NoModules.{NoModules}

-- what is seen of a connection of the echo application without modules
abbrev pub EchoedView : Type 0 → Type 0
EchoedView L = View L (Unit {0}) (Served EchoApp NoModules) EchoJob

-- no exchange began yet, no wait is noted, and the connection hasn't ended
pub record IsUnpolled {L C A J : Type 0} (view : View L C A J) : Type 0 where
  pub done : view.done ≡ []
  pub last : view.last ≡ None
  pub work : work_of view ≡ reads_head None
  pub end : view.end ≡ None

-- what is served, what it was made with and the link's plan stay, and the clock doesn't go back
pub record KeptInCall {L C A J : Type 0} (same_plan : L → L → Type 0) (first last : ℕ)
    (from to : View L C A J) : Type 0 where
  pub served : to.served ≡ from.served
  pub terms : to.terms ≡ from.terms
  pub plan : same_plan from.session.link to.session.link
  pub clock : first ≤ last

-- an exchange notes that reading its request's body met a fault of the link
abbrev pub NotedIn : List Entry → Type 0
NotedIn [] = ⊥
NotedIn (e ∷ more) = NotesFault (Some e) ⊎ NotedIn more

-- What at most so many polls leave of the link; `es` are the exchanges then, and `reason` the end,
-- where one came. A failed write is told in the end, and a failed read there or by an exchange. The
-- mark that the link was shut changes only where the end is `NotKept`, which sets it behind the last
-- flush. The counts of calls rise by no more than so many polls may make: `CALL_BUDGET` each that
-- move bytes, one read each that is not ready and one for each reply, and four each that move no
-- byte and three for each exchange. So the number of polls is bounded as far as they make these
-- calls.
pub record LeavesInCall (polls : ℕ) (old now : LinkState) (es : List Entry)
    (reason : Option End) : Type 0 where
  pub later : Later old now
  pub writes : WritesHeld old.write_faults now.write_faults reason
  pub reads : NotedIn es ⊎ ReadsHeld old.read_faults now.read_faults None reason
  pub shut : ShutBy old.shut now reason
  pub moves : now.moves ≤ old.moves + CALL_BUDGET * polls
  pub reads_not_ready : now.read_waits ≤ old.read_waits + replies es + polls
  pub others : now.others ≤ old.others + 3 * length es + 4 * polls

-- a call that waits made so many polls, and one that ends at most as many, and one at least
abbrev pub MadePolls : ℕ → ℕ → Progress → Type 0
MadePolls most polls (progress.Pending what) = polls ≡ most
MadePolls most polls (progress.Ready reason) = (1 ≤ polls) × (polls ≤ most)

-- What the polls of a call leave of the link. The clock was asked once for each of them: its count
-- rose by as many.
pub record LeavesByPolls (most asked asked' : ℕ) (old now : LinkState) (es : List Entry)
    (reason : Option End) (answer : Progress) : Type 0 where
  pub polls : ℕ
  pub made : MadePolls most polls answer
  pub told : asked' ≡ polls + asked
  pub leaves : LeavesInCall polls old now es reason

-- The exchange began with keep-alive on. Its header has the second of a moment between these two,
-- and its body was refused for a failed read only where a read failed between the link's states.
pub record BeganInCall (first last : ℕ) (before behind : LinkState) (e : Entry) : Type 0 where
  pub began : e.began.keep_off ≡ false
  pub dated : IfSome e.sent_head (λ header. (now : ℕ) × (first ≤ now) × (now ≤ last)
      × (e.date ≡ now / 1000))
  pub refused : RefusedIn before behind None e.body_error

-- So many polls waited: `apps` of them for the application, some for a read, some for a write or a
-- flush, and the others for their budget. The counts of the link rose by as many, and the budgets
-- moved as many bytes.
pub record Waited (apps polls : ℕ) (old now : LinkState) : Type 0 where
  pub reads : ℕ
  pub writes : ℕ
  pub budgets : ℕ
  pub all : apps + reads + writes + budgets ≡ polls
  pub reads_rose : RoseBy reads old.read_waits now.read_waits
  pub writes_rose : RoseBy writes old.write_waits now.write_waits
  pub moves_rose : RoseBy (CALL_BUDGET * budgets) old.moves now.moves
  pub moved : ToldGrowth old.given now.given old.written now.written (CALL_BUDGET * budgets)

-- a job was not ready by itself: its count rose by one
abbrev pub PendedOnce : {J : Type 0} → (J → ℕ) → J → Type 0
PendedOnce {J} pends job = (before : J) × (pends job ≡ raised (pends before) 1)

-- so is the job of the exchange that is last
abbrev pub PendedLast : {J : Type 0} → (J → ℕ) → Stage J → Type 0
PendedLast pends (stage.Answer job) = PendedOnce pends job
PendedLast pends _ = ⊥

-- so many polls waited; where some waited for the application, a job of it was not ready by itself
abbrev pub WaitedBy : {J : Type 0} → (J → ℕ) → ℕ → LinkState → LinkState → Type 0
WaitedBy {J} pends polls old now = (apps : ℕ) × Waited apps polls old now
    × (0 < apps → (job : J) × PendedOnce pends job)

-- what the last poll waits for; `app` is said of a wait for the application
abbrev pub WaitsFor : Type 0 → LinkState → LinkState → LinkState → List Entry → Option Entry
    → Waiting → Type 0
WaitsFor app before old now done last waiting.Read =
    Rose old.read_waits now.read_waits × LacksSo before now done last
WaitsFor app before old now done last waiting.Write =
    Rose old.write_waits now.write_waits × OfLast last (λ e. e.owed ≡ true)
WaitsFor app before old now done last waiting.App = app
WaitsFor app before old now done last waiting.Budget = RoseBy CALL_BUDGET old.moves now.moves
    × ToldGrowth old.given now.given old.written now.written CALL_BUDGET

-- When the call gives each answer: it waits only after so many polls that all waited, and an end
-- has its cause in this call; `before` is the link's state since which bytes count, `filters` are
-- those of the modules, and `pends` counts how often a job was not ready by itself.
abbrev pub AnswersBy : {L C A J : Type 0} → Filters → (L → LinkState) → (J → ℕ) → ℕ → LinkState
    → LinkState → View L C A J → Progress → Type 0
AnswersBy filters state pends polls before old to (progress.Pending what) =
    (to.end ≡ None) × WaitedBy pends polls old (state to.session.link)
    × WaitsFor (PendedLast pends to.stage) before old (state to.session.link) to.done to.last what
AnswersBy filters state pends polls before old to (progress.Ready reason) =
    (to.end ≡ Some reason)
    × EndsBy filters before old (state to.session.link) to.done to.last reason

-- The same where no module refuses and the application is never waited for, as with the echo
-- application without modules.
abbrev pub AnswersFor : {L C A J : Type 0} → (L → LinkState) → ℕ → LinkState → LinkState
    → View L C A J
    → Progress → Type 0
AnswersFor state polls before old to (progress.Pending what) =
    (to.end ≡ None) × Waited 0 polls old (state to.session.link)
    × WaitsFor ⊥ before old (state to.session.link) to.done to.last what
AnswersFor state polls before old to (progress.Ready reason) =
    (to.end ≡ Some reason)
    × EndCause before old (state to.session.link) to.done to.last reason

-- work waits since no moment before this one
abbrev pub WaitsFrom : ℕ → Work → Type 0
WaitsFrom first (reads_head since) = IfSome since (λ at. first ≤ at)
WaitsFrom first (drains times since) =
    IfSome since.read (λ at. first ≤ at) × IfSome since.drain (λ at. first ≤ at)
WaitsFrom first (writes_piece limit since) = IfSome since (λ at. first ≤ at)
WaitsFrom first untimed = Unit {0}

-- The last poll of the call was at the moment `last`, and came in time: `at` is the connection before
-- it, which waited since moments of this call.
pub record AnswersInTime {L C A J : Type 0} (state : L → LinkState) (first last : ℕ)
    (from to : View L C A J) (answer : Progress) : Type 0 where
  pub at : View L C A J
  pub on : Later (state from.session.link) (state at.session.link)
  pub waits : WaitsFrom first (work_of at)
  pub timely : IsTimely state last at to answer
