use Rattle.h1_modules.proofs.BuilderLemmas.{placed_descends}
use Rattle.h1_modules.proofs.builders.HttpModules.add_module.Goals as goal

pub invariant_of-self-2 : goal.invariant_of-self-2
invariant_of-self-2 g c =
    rw (c.in_ok-insert.ensures.items, ← c.deref-2.ensures.value, ← c.place_for-place.ensures.placed)
    (placed_descends g.B.HttpModuleBuilder.order c.args.builder c.deref-2.result.now
    (rw c.deref-2.ensures.value c.self.invariant))
