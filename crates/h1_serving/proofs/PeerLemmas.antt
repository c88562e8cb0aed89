-- What one call leaves of a connection that is new over its link.
use Rattle.std.proofs.Common.{◌≡◌, ℕ, ◌∙◌, subst, Result, Ok, IfOk, IsOkAnd}
use Rattle.std.specs.List.{AllByRecursion}
use Rattle.h1_error.specs.declared.progress.Progress.{Progress}
use Rattle.h1_link.specs.ClockState.{ClockState}
use Rattle.h1_link.specs.LinkState.{LinkState}
use Rattle.h1_transcript.specs.Agrees.{Agrees}
use Rattle.h1_transcript.specs.Begun.{Terms}
use Rattle.h1_transcript.specs.Rules.{Rules}
use Rattle.h1_app.specs.Accounted.{Accounted}
use Rattle.h1_app.specs.View.{View, entries}
use Rattle.h1_serving.specs.Peer.{Closed, IsServedBy}
use Rattle.h1_serving.specs.Served.{IsUnpolled, KeptInCall, LeavesByPolls, BeganInCall, AnswersBy, AnswersInTime}
use Rattle.h1_serving.specs.declared.serving.TheConstants.{MOST_POLLS}

-- what holds of a result that is this value
pub ok_and : {X E : Type 0} (result : Result X E) (x : X) (P : X → Type 0) → result ≡ Ok x
    → IsOkAnd result P → P x
ok_and result x P is h = subst (λ r. IsOkAnd r P) is h

pub at_ok : {X E : Type 0} (result : Result X E) (x : X) (P : X → Type 0) → result ≡ Ok x
    → IfOk result P → P x
at_ok result x P is h = subst (λ r. IfOk r P) is h

-- what the call promises of a connection that starts as `made`
pub record IsOneCall {L A J : Type 0} (rules : A → Rules) (state : L → LinkState)
    (same_plan : L → L → Type 0) (pends : J → ℕ) (began ended : ClockState)
    (made served : View L (Unit {0}) A J) (answer : Progress) : Type 0 where
  pub kept : KeptInCall same_plan began.moment ended.moment made served
  pub leaves : LeavesByPolls MOST_POLLS began.asked ended.asked (state made.session.link)
      (state served.session.link) (entries served) served.end answer
  pub accounted : (before : LinkState)
      → Accounted state before made.session made.done made.last
      → Accounted state before served.session served.done served.last
  pub agrees : (before : LinkState) → Accounted state before made.session made.done made.last
      → Agrees (rules served.served) served.terms before (state served.session.link)
      (entries served)
  pub in_call : AllByRecursion (BeganInCall began.moment ended.moment (state made.session.link)
      (state served.session.link)) (entries served)
  pub cause : (before : LinkState) → Accounted state before made.session made.done made.last
      → AnswersBy (rules served.served).filters state pends MOST_POLLS before
      (state made.session.link) served answer
  pub timely : (before : LinkState) → Accounted state before made.session made.done made.last
      → AnswersInTime state began.moment ended.moment made served answer

-- it was new over its link, and its link was closed behind the call
pub served_of : {L A J : Type 0} (rules : A → Rules) (state : L → LinkState)
    (same_plan : L → L → Type 0) (pends : J → ℕ) (began ended : ClockState) (start left : L)
    (made served : View L (Unit {0}) A J) (answer : Progress) (server : A) (terms : Terms)
    → made.session.link ≡ start → made.served ≡ server → made.terms ≡ terms → IsUnpolled made
    → Accounted state (state start) made.session made.done made.last
    → IsOneCall rules state same_plan pends began ended made served answer
    → Closed (state served.session.link) (state left)
    → IsServedBy rules state same_plan pends server terms began ended start left answer
served_of {L} {A} {J} rules state same_plan pends began ended start left made served answer server
    terms over is terms_are unpolled accounted call closed =
    let same : served.served ≡ server = call.kept.served ∙ is in
    let made_with : served.terms ≡ terms = call.kept.terms ∙ terms_are in
    record {
      made = made;
      served = served;
      over = over;
      unpolled = unpolled;
      by_server = same;
      made_with = made_with;
      kept = call.kept;
      leaves = subst (λ (l : L). LeavesByPolls MOST_POLLS began.asked ended.asked (state l)
          (state served.session.link) (entries served) served.end answer) over call.leaves;
      accounted = call.accounted (state start) accounted;
      agrees = subst (λ (with : Terms). Agrees (rules server) with (state start)
          (state served.session.link) (entries served)) made_with
          (subst (λ (a : A). Agrees (rules a) served.terms (state start)
          (state served.session.link) (entries served)) same
          (call.agrees (state start) accounted));
      in_call = subst (λ (l : L). AllByRecursion (BeganInCall began.moment ended.moment (state l)
          (state served.session.link)) (entries served)) over call.in_call;
      cause = subst (λ (l : L). AnswersBy (rules server).filters state pends MOST_POLLS
          (state start) (state l) served answer) over
          (subst (λ (a : A). AnswersBy (rules a).filters state pends MOST_POLLS (state start)
          (state made.session.link) served answer) same (call.cause (state start) accounted));
      timely = call.timely (state start) accounted;
      closed = closed;
    }
