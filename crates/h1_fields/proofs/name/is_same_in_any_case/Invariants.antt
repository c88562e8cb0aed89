use Rattle.std.proofs.Common.{◌≡◌, drop}
use Rattle.h1_fields.specs.Names.{same_name}
use Rattle.h1_fields.proofs.name.is_same_in_any_case.Given as goal

abbrev pub invariant-loop-at : goal.invariant-loop-at
invariant-loop-at l = same_name (drop l.at l.a) (drop l.at l.b) ≡ same_name l.a l.b
