use Rattle.h1_rings.proofs.RingSteps.{takes, comes}
use Rattle.h1_rings.proofs.item_queue.take.Goals as goal

pub pop_as-requires-clause-rule : goal.pop_as-requires-clause-rule
pop_as-requires-clause-rule g c = (takes _ _ _ c.requires.takes, comes _ _ _ c.requires.takes)
