-- What `f` keeps of the link that it is lent holds of the link here.
use Rattle.h1_transfer.proofs.transfer.Transfer.with_link.Goals as goal

pub returns-clause-keeps : goal.returns-clause-keeps
returns-clause-keeps g c =
    let keeps = rw (← c.self.view_is) at c.requires.keeps in
    rw (← c.self.view_is) (keeps _ _ c.call_on.ensures)
