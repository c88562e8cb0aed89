-- One poll of a script's connection: the states before and after it, and its answer.
use Rattle.std.specs.Prelude.{◌≡◌, ◌≢◌, ℕ, ◌+◌, ◌≤◌, List, [], ◌∷◌, ◌++◌, length, true, Some, None, IfSome, IfNone, codes}
use Rattle.std.specs.Fmt.{decimal}
use Rattle.h1_error.specs.declared.error.ErrorType.TheVariants.{NoMemory}
use Rattle.h1_error.specs.declared.progress.End.{End}
use Rattle.h1_error.specs.declared.progress.End.TheVariants as end
use Rattle.h1_error.specs.declared.progress.Waiting.{Waiting}
use Rattle.h1_error.specs.declared.progress.Waiting.TheVariants as waiting
use Rattle.h1_error.specs.declared.progress.Progress.{Progress}
use Rattle.h1_error.specs.declared.progress.Progress.TheVariants as progress
use Rattle.h1_link.specs.Counts.{Rose, RoseBy}
use Rattle.h1_link.specs.Later.{Later}
use Rattle.h1_words.specs.Report.{answer_text}
use Rattle.h1_transcript.specs.Agrees.{Agrees}
use Rattle.h1_transcript.specs.Growth.{Extends}
use Rattle.h1_transcript.specs.Ends.{LacksSo, OfLast}
use Rattle.h1_transcript.specs.Refusals.{EndsBy}
use Rattle.h1_transcript.specs.Told.{ToldGrowth}
use Rattle.h1_transcript.specs.Entries.{replies}
use Rattle.h1_app.specs.Leaves.{Leaves}
use Rattle.h1_app.specs.Timely.{EndsInTime, WaitsInTime}
use Rattle.h1_app.specs.Work.{HasTimesLeft, Work, work_on}
use Rattle.h1_serve.specs.State.{State, new_link, rules, transcript}
use Rattle.h1_serve.specs.LinkDoes.{GivesAhead, TakesWithin, FailsAsPlanned}
use Rattle.h1_transfer.specs.declared.budget.TheConstants.{CALL_BUDGET}

-- when a poll answers that it waits: never for the application
abbrev pub PendsFor : State → State → Waiting → Type 0
PendsFor s t waiting.Read = Rose s.link.read_waits t.link.read_waits
    × LacksSo new_link t.link t.done t.last
PendsFor s t waiting.Write = Rose s.link.write_waits t.link.write_waits
    × OfLast t.last (λ e. e.owed ≡ true)
PendsFor s t waiting.App = ⊥
PendsFor s t waiting.Budget = RoseBy CALL_BUDGET s.link.moves t.link.moves
    × ToldGrowth s.link.given t.link.given s.link.written t.link.written CALL_BUDGET

-- a connection that ended where memory ran out is not reported
abbrev pub HasMemory : End → Type 0
HasMemory end.Finished = Unit {0}
HasMemory end.NotKept = Unit {0}
HasMemory end.Overread = Unit {0}
HasMemory (end.Failed error) = error.kind ≢ NoMemory

-- the answer isn't out of memory
abbrev pub IsAnswered : Progress → Type 0
IsAnswered (progress.Pending what) = Unit {0}
IsAnswered (progress.Ready reason) = HasMemory reason

-- why a poll of a connection that had not ended gives this answer
abbrev pub AnswerCause : State → State → Progress → Type 0
AnswerCause s t (progress.Pending what) = (t.end ≡ None) × PendsFor s t what
AnswerCause s t (progress.Ready reason) = (t.end ≡ Some reason) × HasMemory reason
    × EndsBy (rules t).filters new_link s.link t.link t.done t.last reason

-- what the connection did before a poll, where it still does it
abbrev pub work_before : State → State → Work
work_before s t = work_on (length s.done) (length t.done) s.work

-- how long the connection waits, by the answer of a poll of one that had not ended
abbrev pub AnswersInTime : ℕ → State → State → Progress → Type 0
AnswersInTime moment s t (progress.Pending what) =
    WaitsInTime moment s.link t.link (work_before s t) t.work (what ≡ waiting.Budget)
AnswersInTime moment s t (progress.Ready reason) =
    EndsInTime moment s.link t.link (work_before s t) t.work t.last reason

-- One poll at a moment, between two states: what was read and written agrees with the transcript
-- and with what the connection is made with, and goes on from the state before; the link did what
-- the lines before set, and the answer has its cause.
pub record Polls (moment : ℕ) (s : State) (answer : Progress) (t : State) : Type 0 where
  pub modules : t.modules ≡ s.modules
  pub terms : t.terms ≡ s.terms
  pub shut : t.shut ≡ s.shut
  pub later : Later s.link t.link
  pub agrees : Agrees (rules t) t.terms new_link t.link (transcript t)
  pub extends : Extends moment s.shut s.link t.link (transcript s) (transcript t)
  pub gives : GivesAhead s t
  pub takes : TakesWithin s t
  pub fails : FailsAsPlanned s t
  pub moves : t.link.moves ≤ s.link.moves + CALL_BUDGET
  -- at most one read was not ready for each reply that was made, and one more
  pub reads_not_ready : t.link.read_waits + replies (transcript s)
      ≤ s.link.read_waits + replies (transcript t) + 1
  -- after an end nothing more comes
  pub again : IfSome s.end (λ reason. (answer ≡ progress.Ready reason) × (t ≡ s))
  -- a read or a write that failed is told, by the end or in the last exchange
  pub leaves : IfNone s.end (Leaves s.link t.link t.last t.end)
  pub timely : IfNone s.end (AnswersInTime moment s t answer)
  -- the limits are those that the application left
  pub left : HasTimesLeft t.last t.work
  pub cause : IfNone s.end (AnswerCause s t answer)

-- poll N: ANSWER
abbrev pub poll_line : ℕ → Progress → List ℕ
poll_line moment answer =
    codes "poll " ++ decimal moment ++ codes ": " ++ answer_text answer ++ (10 ∷ [])
