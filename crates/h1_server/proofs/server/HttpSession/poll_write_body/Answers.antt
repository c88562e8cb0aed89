-- What the transfer did is what the call did.
use denote.Param.{param}
use Rattle.h1_server.specs.contracts.server.HttpSession.{the_view}
use Rattle.h1_server.proofs.HoldsLemmas.{piece_in}
use Rattle.h1_server.proofs.server.HttpSession.poll_write_body.Goals as goal

pub returns-clause-writes : goal.returns-clause-writes
returns-clause-writes g c =
    let old = the_view (param 0 g.row.L) (param 1 g.row.C) g.L.Link c.self.inside in
    let deadline = rw c.outgoing.ensures at c.piece_deadline-deadline.ensures in
    rw (← c.self.view_is) (piece_in {C = g.row.C.Denot} g.L.Link.state old c.poll_write_body.new.self c.args.now _ _ _
    c.poll_write_body.result deadline c.poll_write_body.ensures.writes)
