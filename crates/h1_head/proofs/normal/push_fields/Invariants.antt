use Rattle.std.proofs.Common.{◌≡◌, ◌+◌, ◌++◌, length, option_map, unwrap_or}
use Rattle.std.specs.List.{join_with_byte}
use Rattle.h1_head.specs.Normal.{normal_fields, parts_at}
use Rattle.h1_head.specs.Pieces.{parts_behind}
use Rattle.h1_head.proofs.ResponseStepLemmas.{printed}
use Rattle.h1_head.proofs.normal.push_fields.Given as goal

abbrev pub invariant-loop-behind : goal.invariant-loop-behind
invariant-loop-behind l =
    l.out.items ++ printed l.line.items (parts_behind 10 (option_map (λ b. b.now) l.behind))
    ≡ l.fn.out.items ++ join_with_byte 10 (normal_fields (parts_at 10 l.fields))

abbrev pub decreases-loop-behind : goal.decreases-loop-behind
decreases-loop-behind l = unwrap_or (option_map (λ b. length b.now + 1) l.behind) 0
