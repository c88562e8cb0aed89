-- A peer that the echo application served, in the words of `listen`.
use Rattle.std.proofs.Common.{◌≡◌, ◌∙◌, subst}
use Rattle.h1_error.specs.declared.progress.Progress.{Progress}
use Rattle.h1_link.specs.ClockState.{ClockState}
use Rattle.h1_link.specs.LinkState.{LinkState}
use Rattle.h1_transcript.specs.Agrees.{Agrees}
use Rattle.h1_transcript.specs.Begun.{Terms}
use Rattle.h1_transcript.proofs.PlainLemmas.{plain_agrees}
use Rattle.h1_transcript.specs.Rules.{Rules, plain}
use Rattle.h1_echo.specs.Echo.{EchoGives}
use Rattle.h1_echo.specs.declared.echo.EchoApp.{EchoApp}
use Rattle.h1_echo.specs.declared.echo.EchoJob.{EchoJob}
use Rattle.h1_modules.specs.declared.no_modules.NoModules.{NoModules}
use Rattle.h1_app.specs.Filtering.{rules_with}
use Rattle.h1_app.specs.NoModulesLaw.{no_chain, none_plain}
use Rattle.h1_app.specs.View.{Served, entries}
use Rattle.h1_serving.specs.Peer.{IsServedBy}
use Rattle.h1_serving.specs.declared.serving.TheConstants.{MOST_POLLS}
use Rattle.h1_serving.proofs.PlainCalls.{plain_answers}
use Rattle.h1_serve.specs.ListenPeer.{IsServed, listen_terms}

-- the rules of the echo application without modules
abbrev pub echo_rules : Served EchoApp NoModules → Rules
echo_rules served = rules_with EchoGives (no_chain served.builders)

pub echoed_peer : {L : Type 0} (state : L → LinkState) (same_plan : L → L → Type 0)
    (server : Served EchoApp NoModules) (terms : Terms) (began ended : ClockState)
    (start left : L) (answer : Progress) → terms ≡ listen_terms
    → IsServedBy echo_rules state same_plan (λ (job : EchoJob). 0) server terms began ended start
    left answer
    → IsServed state same_plan began ended start left answer
echoed_peer state same_plan server terms began ended start left answer are h = record {
  made = h.made;
  served = h.served;
  over = h.over;
  unpolled = h.unpolled;
  terms = h.made_with ∙ are;
  kept = h.kept;
  leaves = h.leaves;
  accounted = h.accounted;
  agrees = subst (λ (with : Terms). Agrees (plain EchoGives) with (state start)
      (state h.served.session.link) (entries h.served)) are
      (plain_agrees (echo_rules server) (none_plain server.builders) terms (state start)
      (state h.served.session.link) (entries h.served) h.agrees);
  in_call = h.in_call;
  cause = plain_answers (echo_rules server) (none_plain server.builders) state MOST_POLLS
      (state start) (state start) h.served answer h.cause;
  timely = h.timely;
  closed = h.closed;
}
