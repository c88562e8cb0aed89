use Rattle.h1_fields.proofs.KindLemmas.{known_moved}
use Rattle.h1_fields.proofs.block.Block.remove.Goals as goal

pub invariant_of-self : goal.invariant_of-self
invariant_of-self c =
    known_moved _ _ _ c.moved-self-inside.ensures (rw c.as_slice.ensures at c.remove_named.ensures.fit)
