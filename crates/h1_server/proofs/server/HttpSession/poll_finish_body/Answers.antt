-- What the transfer did is what the call did.
use denote.Param.{param}
use Rattle.h1_server.specs.contracts.server.HttpSession.{the_view}
use Rattle.h1_server.proofs.HoldsLemmas.{end_call_in}
use Rattle.h1_server.proofs.server.HttpSession.poll_finish_body.Goals as goal

pub returns-clause-writes : goal.returns-clause-writes
returns-clause-writes g c = rw (← c.self.view_is)
    (end_call_in {C = g.row.C.Denot} g.L.Link.state
    (the_view (param 0 g.row.L) (param 1 g.row.C) g.L.Link c.self.inside)
    c.poll_finish_body.new.self c.poll_finish_body.result c.poll_finish_body.ensures.writes)
