-- No byte is looked at.
use Rattle.h1_server.proofs.HeadLemmas.{unread_searched}
use Rattle.h1_server.proofs.server.HttpSession.next_request.Goals as goal

pub invariant_of-self : goal.invariant_of-self
invariant_of-self g c = unread_searched c.start_over-2.new.self _ c.start_over-2.ensures.none.0 (c.start_over-2.ensures.looked _ _)
