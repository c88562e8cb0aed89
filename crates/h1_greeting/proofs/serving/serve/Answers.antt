use Rattle.std.proofs.Common.{is_some, sym, ◌∙◌, ap, subst}
use Rattle.h1_link.specs.MemRule.{Rule}
use Rattle.h1_link.specs.MemState.{new_mem_state}
use Rattle.h1_app.specs.View.{served_by}
use Rattle.h1_greeting.proofs.ServedLemmas.{fed_link, served_none, served_on, unended}
use Rattle.h1_greeting.proofs.serving.serve.Goals as goal

pub loop-init : goal.loop-init
loop-init g c =
    let arc = c.in_ok-new.ensures.ok in
    served_none _ _ _ c.args.given.now _ _ c.in_ok-connection.connection
    (ap (λ s. served_by s.app s.modules) arc) (ap (λ s. s.server_options) arc ∙ c.requires)
    (fed_link _ _ _ c.args.given.now c.new-link.ensures c.in_ok-give.ensures.ok c.end.ensures)
    c.in_ok-connection.ensures.fresh c.in_ok-connection.ensures.accounted

pub loop-preserved : goal.loop-preserved
loop-preserved g c =
    let on = unended c.loop.connection.end
    (ap is_some (sym c.end-in-loop.ensures) ∙ sym c.is_some.ensures ∙ c.if-is_some.false) in
    let cause = rw on at c.poll.ensures.cause in
    let since = c.loop.invariant.accounted in
    served_on _ _ c.args.given.now c.loop.counter c.loop.connection c.poll.new.self c.poll.result
    c.loop.invariant c.loop-test.true on c.poll.ensures.served c.poll.ensures.plan
    (subst Rule c.link-in-loop.ensures c.rule.ensures)
    (c.poll.ensures.accounted new_mem_state.state since)
    (c.poll.ensures.agrees new_mem_state.state since) (cause new_mem_state.state since)

pub returns-clause-agrees : goal.returns-clause-agrees
returns-clause-agrees g c = c.loop.invariant.agrees
