-- A peer that was served over a link, from the link's first byte on.
use Rattle.std.specs.Prelude.{◌≡◌, ℕ}
use Rattle.std.specs.List.{AllByRecursion}
use Rattle.h1_error.specs.declared.progress.Progress.{Progress}
use Rattle.h1_link.specs.ClockState.{ClockState}
use Rattle.h1_link.specs.LinkState.{LinkState}
use Rattle.h1_link.specs.Steps.{after_flush, after_shutdown}
use Rattle.h1_link.specs.declared.link.FlushStep.{FlushStep}
use Rattle.h1_transcript.specs.Agrees.{Agrees}
use Rattle.h1_transcript.specs.Begun.{Terms}
use Rattle.h1_transcript.specs.Rules.{Rules}
use Rattle.h1_app.specs.Accounted.{Accounted}
use Rattle.h1_app.specs.View.{View, entries}
use Rattle.h1_serving.specs.Served.{IsUnpolled, KeptInCall, LeavesByPolls, BeganInCall, AnswersBy, AnswersInTime}
use Rattle.h1_serving.specs.declared.serving.TheConstants.{MOST_POLLS}

-- what contracts see of any clock
abbrev pub clock_of : {T : Type 0} → (T → ℕ) → (T → ℕ) → T → ClockState
clock_of moment asked clock = record { moment = moment clock; asked = asked clock }

-- one flush and then one shutdown lie between these states of a link, and nothing else
abbrev pub Closed : LinkState → LinkState → Type 0
Closed before now = (step : FlushStep) × (now ≡ after_shutdown (after_flush before step))

-- A connection of this server was made over the link `start` and served by one call, and then its
-- link was flushed and shut down, which left it as `left`. The clock stood at `began` before the
-- call and at `ended` behind it. `answer` is that of the call. What it leaves, what was read and
-- sent, and why it answers this is what the contract of `serve_link` says, with the state of
-- `start` as the one since which bytes count.
pub record IsServedBy {L A J : Type 0} (rules : A → Rules) (state : L → LinkState)
    (same_plan : L → L → Type 0) (pends : J → ℕ) (server : A) (terms : Terms)
    (began ended : ClockState) (start left : L) (answer : Progress) : Type 0 where
  pub made : View L (Unit {0}) A J
  pub served : View L (Unit {0}) A J
  pub over : made.session.link ≡ start
  pub unpolled : IsUnpolled made
  pub by_server : served.served ≡ server
  pub made_with : served.terms ≡ terms
  pub kept : KeptInCall same_plan began.moment ended.moment made served
  pub leaves : LeavesByPolls MOST_POLLS began.asked ended.asked (state start)
      (state served.session.link) (entries served) served.end answer
  pub accounted : Accounted state (state start) served.session served.done served.last
  pub agrees : Agrees (rules server) terms (state start) (state served.session.link)
      (entries served)
  pub in_call : AllByRecursion (BeganInCall began.moment ended.moment (state start)
      (state served.session.link)) (entries served)
  pub cause : AnswersBy (rules server).filters state pends MOST_POLLS (state start) (state start)
      served answer
  pub timely : AnswersInTime state began.moment ended.moment made served answer
  pub closed : Closed (state served.session.link) (state left)
