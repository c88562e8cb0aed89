use Rattle.std.proofs.Common.{arith}
use Rattle.std.proofs.lemmas.Grind.{common_steps}
use Rattle.h1_head.proofs.PartLemmas.{without_cr_front}
use Rattle.h1_head.proofs.normal.join.Goals as goal

pub returns-clause-ok : goal.returns-clause-ok
returns-clause-ok c =
    let front = without_cr_front c.args.line.now.items in
    grind (arith, common_steps)
