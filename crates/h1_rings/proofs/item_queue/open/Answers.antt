use Rattle.std.proofs.Common.{rules}
use Rattle.h1_rings.proofs.RingSteps.{begins, forks}
use Rattle.h1_rings.proofs.item_queue.open.Goals as goal

pub ruled-requires-clause-rule : goal.ruled-requires-clause-rule
ruled-requires-clause-rule g c = begins _

pub another-rx-requires-clause-rule : goal.another-rx-requires-clause-rule
another-rx-requires-clause-rule g c = forks _ _ _ (search rules) (search rules)
