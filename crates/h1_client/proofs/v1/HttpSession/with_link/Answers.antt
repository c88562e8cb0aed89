-- What `f` keeps of the link that it is lent is what the transfer asks.
use Rattle.h1_client.proofs.CallLemmas.{sound_lent}
use Rattle.h1_client.proofs.v1.HttpSession.with_link.Goals as goal

pub with_link-requires-clause-keeps : goal.with_link-requires-clause-keeps
with_link-requires-clause-keeps g c = rw (← c.self.view_is) at c.requires.keeps

pub invariant_of-self : goal.invariant_of-self
invariant_of-self g c =
    sound_lent g.L.Link.state c.self.inside.transfer c.with_link.new.self _ _ _ _ c.self.invariant
    c.with_link.ensures.rest c.with_link.ensures.keeps.given c.with_link.ensures.keeps.written
