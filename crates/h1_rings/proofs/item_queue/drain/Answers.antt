use Rattle.h1_rings.proofs.RingSteps.{drains, totals}
use Rattle.h1_rings.proofs.item_queue.drain.Goals as goal

pub pop_as-requires-clause-rule : goal.pop_as-requires-clause-rule
pop_as-requires-clause-rule g c = (drains _ _ _ c.requires.rights.0 c.requires.rights.1, totals _ _ _ c.requires.rights.0 c.requires.rights.1)
