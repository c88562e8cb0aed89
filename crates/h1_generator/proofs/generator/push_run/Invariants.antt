use Rattle.std.proofs.Common.{◌≡◌, ◌++◌, replicate}
use Rattle.h1_generator.proofs.generator.push_run.Given as goal

abbrev pub invariant-loop : goal.invariant-loop
invariant-loop l = l.bytes.items ≡ l.fn.bytes.items ++ replicate l.counter l.byte
