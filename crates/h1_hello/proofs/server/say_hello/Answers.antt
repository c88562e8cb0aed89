-- The server is the one that says hello, its link was new, and one call served it.
use Rattle.std.proofs.Common.{ℕ, List, ◌++◌, Some, take, false, ap, ◌∙◌, subst}
use Rattle.h1_link.specs.LinkState.{LinkState}
use Rattle.h1_link.specs.MemRule.{Rule}
use Rattle.h1_link.specs.MemState.{MemState, new_mem_state}
use Rattle.h1_modules.specs.declared.head_filter.HeadModule.{HeadModule}
use Rattle.h1_transcript.specs.Agrees.{Agrees}
use Rattle.h1_transcript.specs.Begun.{Terms}
use Rattle.h1_app.specs.Accounted.{Accounted}
use Rattle.h1_app.specs.Filtering.{filters_of, rules_with}
use Rattle.h1_app.specs.View.{entries, terms_of}
use Rattle.h1_application.specs.AtOnce.{AnyLawful, AnswersAtOnce}
use Rattle.h1_serving.specs.Served.{AnswersBy, LeavesByPolls}
use Rattle.h1_serving.specs.declared.serving.TheConstants.{MOST_POLLS}
use Rattle.h1_hello.specs.declared.gate.Gate.{Gate}
use Rattle.h1_hello.specs.Gate.{gate_chain}
use Rattle.h1_hello.specs.Hello.{hello_terms}
use Rattle.h1_hello.proofs.server.say_hello.Goals as goal

pub returns-clause-given : goal.returns-clause-given
returns-clause-given c =
    let to = c.serve_link.new.connection in
    let rule = subst Rule c.link-3.ensures c.rule.ensures in
    let put = ap (λ (l : MemState). l.put) c.in_ok-connection.ensures.fresh.link
    ∙ ap (λ (l : MemState). l.put) c.end.ensures
    ∙ ap (λ (l : MemState). l.put) c.in_ok-give.ensures.ok
    ∙ ap (λ (l : MemState). l.put ++ c.args.given.now) c.new-link.ensures in
    rule.given
    ∙ ap (λ (bytes : List ℕ). Some (take to.session.link.state.bytes_in bytes))
    (c.serve_link.ensures.kept.plan.put ∙ put)

pub returns-clause-agrees : goal.returns-clause-agrees
returns-clause-agrees c =
    let made = c.in_ok-connection.connection in
    let to = c.serve_link.new.connection in
    let fresh = c.in_ok-connection.ensures.fresh in
    let kept = c.serve_link.ensures.kept in
    let server = c.in_ok-new.ensures.ok in
    let hello = c.in_ok-server.ensures in
    let gates = ap (λ s. s.builders) (kept.served ∙ fresh.served) ∙ ap (λ s. s.modules) server
    ∙ hello.app in
    let terms = kept.terms ∙ fresh.terms ∙ ap (λ s. terms_of s.server_options false) server
    ∙ hello.terms in
    let state =
    ap (λ (l : MemState). l.state) c.end.ensures
    ∙ ap (λ (l : MemState). l.state) c.in_ok-give.ensures.ok
    ∙ ap (λ (l : MemState). l.state) c.new-link.ensures in
    let accounted =
    subst (λ (s : LinkState). Accounted (λ (l : MemState). l.state) s made.session made.done
    made.last) state c.in_ok-connection.ensures.accounted in
    subst (λ (gates : List (HeadModule Gate)).
    Agrees (rules_with (AnswersAtOnce (λ head reply. AnyLawful head reply)) (gate_chain gates))
    hello_terms new_mem_state.state to.session.link.state (entries to)) gates
    (subst (λ (terms : Terms).
    Agrees (rules_with (AnswersAtOnce (λ head reply. AnyLawful head reply))
    (gate_chain to.served.builders)) terms new_mem_state.state to.session.link.state (entries to))
    terms (c.serve_link.ensures.agrees new_mem_state.state accounted))

pub returns-clause-served : goal.returns-clause-served
returns-clause-served c =
    let made = c.in_ok-connection.connection in
    let to = c.serve_link.new.connection in
    let fresh = c.in_ok-connection.ensures.fresh in
    let answer = c.serve_link.result in
    let asked = c.serve_link.new.clock.asked in
    let gates = ap (λ s. s.builders) (c.serve_link.ensures.kept.served ∙ fresh.served)
    ∙ ap (λ s. s.modules) c.in_ok-new.ensures.ok ∙ c.in_ok-server.ensures.app in
    let new = ap (λ (l : MemState). l.state) c.end.ensures
    ∙ ap (λ (l : MemState). l.state) c.in_ok-give.ensures.ok
    ∙ ap (λ (l : MemState). l.state) c.new-link.ensures in
    let state = ap (λ (l : MemState). l.state) fresh.link ∙ new in
    let accounted =
    subst (λ (s : LinkState). Accounted (λ (l : MemState). l.state) s made.session made.done
    made.last) new c.in_ok-connection.ensures.accounted in
    record {
      asked = asked;
      answer = answer;
      leaves = subst (λ (s : LinkState). LeavesByPolls MOST_POLLS 0 asked s to.session.link.state
          (entries to) to.end answer) state
          (subst (λ (n : ℕ). LeavesByPolls MOST_POLLS n asked made.session.link.state
          to.session.link.state (entries to) to.end answer)
          (ap (λ clock. clock.asked) c.new-3.ensures) c.serve_link.ensures.leaves);
      answers = subst (λ (gates : List (HeadModule Gate)). AnswersBy (filters_of (gate_chain gates))
          (λ (l : MemState). l.state) (λ job. 0) MOST_POLLS new_mem_state.state new_mem_state.state
          to answer) gates
          (subst (λ (s : LinkState). AnswersBy (filters_of (gate_chain to.served.builders))
          (λ (l : MemState). l.state) (λ job. 0) MOST_POLLS new_mem_state.state s to answer) state
          (c.serve_link.ensures.answer new_mem_state.state accounted));
    }
