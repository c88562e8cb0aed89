use Rattle.std.proofs.Common.{le_of_eq}
use Rattle.h1_rings.proofs.RingSteps.{puts, waits}
use Rattle.h1_rings.proofs.item_queue.put.Goals as goal

pub push_as-requires-clause-rule : goal.push_as-requires-clause-rule
push_as-requires-clause-rule g c = (puts _ _ _ _ _ (le_of_eq c.requires.pass.1) c.requires.puts, waits _ _ _ c.requires.puts)
