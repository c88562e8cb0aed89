use Rattle.std.proofs.Common.{◌≡◌}
use Rattle.std.specs.List.{list_any}
use Rattle.h1_fields.specs.Names.{same_name}
use Rattle.h1_fields.proofs.meaning.lists.Given as goal

abbrev pub invariant-loop-part : goal.invariant-loop-part
invariant-loop-part l =
    list_any (same_name l.token) l.part-iterator ≡ list_any (same_name l.token) l.fn.parts
