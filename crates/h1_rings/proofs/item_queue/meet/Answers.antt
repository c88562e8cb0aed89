use Rattle.std.proofs.Common.{ap}
use Rattle.h1_rings.proofs.RingSteps.{merges, totals}
use Rattle.h1_rings.proofs.item_queue.meet.Goals as goal

pub absorb-requires-clause-rule : goal.absorb-requires-clause-rule
absorb-requires-clause-rule g c = merges _ _ _ _ _ c.requires.rights.0 c.requires.rights.1

pub learn_as-requires-clause-rule : goal.learn_as-requires-clause-rule
learn_as-requires-clause-rule g c = totals _ _ _ (ap (λ v. v.puts) c.absorb.ensures.rule) (ap (λ v. v.takes) c.absorb.ensures.rule)
