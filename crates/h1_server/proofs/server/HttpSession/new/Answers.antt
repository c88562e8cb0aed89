-- No byte is looked at.
use Rattle.h1_server.proofs.HeadLemmas.{unread_searched}
use Rattle.h1_server.proofs.server.HttpSession.new.Goals as goal

pub invariant_of-result : goal.invariant_of-result
invariant_of-result g c = unread_searched c.new-2.result _ c.new-2.ensures.none.0 (c.new-2.ensures.looked _ _)
