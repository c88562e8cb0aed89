use Rattle.std.proofs.Common.{rules}
use Rattle.h1_rings.proofs.WordSteps.{begins, forks}
use Rattle.h1_rings.proofs.close_word.open.Goals as goal

pub ruled-requires : goal.ruled-requires
ruled-requires c = (search rules, (search rules, begins))

pub split_pass-other-requires : goal.split_pass-other-requires
split_pass-other-requires c = (search rules, (search rules, (search rules, forks _ _)))
