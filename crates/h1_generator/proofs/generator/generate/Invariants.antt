use Rattle.std.proofs.Common.{◌≡◌, ◌+◌, ◌-◌, ◌++◌}
use Rattle.h1_generator.specs.Generated.{generated, generated_from}
use Rattle.h1_generator.proofs.generator.generate.Given as goal

abbrev pub invariant-loop-number : goal.invariant-loop-number
invariant-loop-number l =
    l.bytes.items ++ generated_from l.number (l.count + 1 - l.number) ≡ generated l.count
