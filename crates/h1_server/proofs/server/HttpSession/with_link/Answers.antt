-- What `f` keeps of the link that it is lent is what the transfer asks.
use Rattle.h1_server.proofs.server.HttpSession.with_link.Goals as goal

pub with_link-requires-clause-keeps : goal.with_link-requires-clause-keeps
with_link-requires-clause-keeps g c = rw (← c.self.view_is) at c.requires.keeps
