use Rattle.std.proofs.Common.{arith}
use Rattle.std.proofs.lemmas.Grind.{common_steps}
use Rattle.h1_generator.proofs.TextLemmas.{chunk_run}
use Rattle.h1_generator.proofs.generator.push_chunk.Goals as goal

pub returns-clause-ok : goal.returns-clause-ok
returns-clause-ok c =
    rw (chunk_run c.args.size (omega arith) (omega arith)) (grind (arith, common_steps))
