use Rattle.std.proofs.Common.{◌≡◌, ◌++◌}
use Rattle.h1_fetch.specs.Told.{field_lines}
use Rattle.h1_fetch.proofs.told.field_lines.Given as goal

abbrev pub invariant-loop-name : goal.invariant-loop-name
invariant-loop-name l = l.text ++ field_lines l.name-iterator ≡ field_lines l.fields
