use Rattle.std.proofs.Common.{arith}
use Rattle.std.proofs.lemmas.Grind.{common_steps}
use Rattle.h1_generator.proofs.TextLemmas.{counted_text}
use Rattle.h1_generator.proofs.generator.push_counted.Goals as goal

pub returns-clause-ok : goal.returns-clause-ok
returns-clause-ok c = rw (counted_text c.args.number c.args.size) (grind (arith, common_steps))
