-- The body is handed in where the head's call left the session.
use Rattle.std.proofs.Common.{sym, subst}
use Rattle.h1_forward.specs.Forwarding.{ForwardView, IsAt}
use Rattle.h1_forward.proofs.StageLemmas.{head_goes_on}
use Rattle.h1_forward.proofs.forward.Forward.poll_head.Goals as goal

pub returns-clause-goes_on : goal.returns-clause-goes_on
returns-clause-goes_on g c =
    let f = c.self.inside in
    let stage = rw (← c.self.view_is) at c.requires.stage in
    let at = subst (λ (v : ForwardView). IsAt v c.args.client.now) (sym c.self.view_is) c.requires.at in
    let call = c.poll_write_request_header-told in
    rw (c.judge.ensures.answer, c.judge.ensures.next)
    (head_goes_on g.L.Link.state g.L.Link.same_plan c.args.now
    (record { stage = f.stage; head = f.head; body = f.body }) c.args.client.now call.new.self
    call.new.req call.result stage at call.ensures)
