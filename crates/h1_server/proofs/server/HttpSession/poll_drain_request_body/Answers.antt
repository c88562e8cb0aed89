-- What the transfer did is what the call did.
use Rattle.h1_server.proofs.HoldsLemmas.{drains_in}
use Rattle.h1_server.proofs.server.HttpSession.poll_drain_request_body.Goals as goal

pub returns-clause-drains : goal.returns-clause-drains
returns-clause-drains g c = rw (← c.self.view_is)
    (drains_in g.L.Link.state _ c.poll_drain.new.self c.args.now c.poll_drain.result
    (rw c.drain_limits.ensures at c.poll_drain.ensures.drains))
