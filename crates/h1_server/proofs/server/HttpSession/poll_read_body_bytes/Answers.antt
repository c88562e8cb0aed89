-- What the transfer did is what the call did.
use Rattle.h1_server.proofs.HoldsLemmas.{payload_in}
use Rattle.h1_server.proofs.server.HttpSession.poll_read_body_bytes.Goals as goal

pub returns-in-None-clause-reads : goal.returns-in-None-clause-reads
returns-in-None-clause-reads g c = rw (← c.self.view_is)
    (payload_in g.L.Link.state _ c.poll_read_body_bytes-answer.new.self c.args.now _
    c.poll_read_body_bytes-answer.result
    (rw c.body_deadline-deadline.ensures at c.poll_read_body_bytes-answer.ensures.reads))
