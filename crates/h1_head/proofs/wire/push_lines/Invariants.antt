use Rattle.std.proofs.Common.{◌≡◌, ◌++◌}
use Rattle.h1_fields.specs.Lines.{print_lines}
use Rattle.h1_head.proofs.wire.push_lines.Given as goal

abbrev pub invariant-loop-name : goal.invariant-loop-name
invariant-loop-name l =
    l.out ++ print_lines l.name-iterator ≡ l.fn.out ++ print_lines l.fields
