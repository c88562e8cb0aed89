use Rattle.std.proofs.Common.{rules}
use Rattle.h1_rings.proofs.WordSteps.{sets}
use Rattle.h1_rings.proofs.close_word.set.Goals as goal

pub swap_as-requires : goal.swap_as-requires
swap_as-requires g c = (search rules, (search rules, (search rules, sets _ _ _ c.requires.owns c.requires.number.1)))
