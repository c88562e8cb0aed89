use Rattle.std.proofs.Common.{rules}
use Rattle.h1_rings.proofs.WordSteps.{looks}
use Rattle.h1_rings.proofs.close_word.look.Goals as goal

pub load_as-bits-requires : goal.load_as-bits-requires
load_as-bits-requires g c = (search rules, (search rules, (search rules, looks _ _)))
