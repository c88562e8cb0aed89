use Rattle.h1_rings.proofs.Drained.{drained}
use Rattle.h1_rings.proofs.item_queue.drain_four.Goals as goal

pub returns : goal.returns
returns g c = drained _ _ _ _ _ _ _ _ _ _ _ _ _ c.drain-first.ensures.put c.drain-second.ensures.put c.drain-third.ensures.put
    c.drain-first.ensures.next c.drain-second.ensures.next c.drain-third.ensures.next c.drain-fourth.ensures.next c.requires.left
