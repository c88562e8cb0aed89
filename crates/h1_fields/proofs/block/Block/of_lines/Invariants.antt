use Rattle.std.proofs.Common.{◌≡◌, ◌++◌}
use Rattle.h1_fields.proofs.block.Block.of_lines.Given as goal

abbrev pub invariant-loop-name : goal.invariant-loop-name
invariant-loop-name l = l.block ++ l.name-iterator ≡ l.fn.left
