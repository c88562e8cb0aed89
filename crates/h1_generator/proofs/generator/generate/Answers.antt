use Rattle.std.proofs.Common.{◌+◌, ◌-◌, ◌++◌, ap, ◌∙◌, arith}
use Rattle.h1_generator.specs.Generated.{generated, generated_from}
use Rattle.h1_generator.proofs.TextLemmas.{more_from}
use Rattle.h1_generator.proofs.generator.generate.Goals as goal

pub loop-number-preserved : goal.loop-number-preserved
loop-number-preserved c =
    let number = c.loop-number.number in
    ap (λ xs. xs
    ++ generated_from (number + 1)
    (c.args.count + 1 - (number + 1))) c.in_ok-push_request.ensures.ok
    ∙ more_from number c.args.count c.loop-number.bytes.items (generated c.args.count)
    (omega arith) c.loop-number.invariant
