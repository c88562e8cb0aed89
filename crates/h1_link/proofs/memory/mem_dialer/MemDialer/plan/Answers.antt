use Rattle.h1_link.specs.MemDialer.{AllFresh-push}
use Rattle.h1_link.proofs.memory.mem_dialer.MemDialer.plan.Goals as goal

pub invariant_of-self-2 : goal.invariant_of-self-2
invariant_of-self-2 g c =
    let fresh = AllFresh-push g.L.Link.state _ _ c.self.invariant c.requires.fresh in
    rw c.in_ok-push_back.ensures.items fresh
