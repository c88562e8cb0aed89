use Rattle.std.proofs.Common.{◌≡◌}
use Rattle.std.specs.List.{list_any}
use Rattle.h1_head.specs.Etag.{matches_weakly}
use Rattle.h1_head.proofs.conditional_filter.has_tag.Given as goal

abbrev pub invariant-loop-list : goal.invariant-loop-list
invariant-loop-list l =
    list_any (λ list. matches_weakly list l.tag) l.list-iterator
    ≡ list_any (λ list. matches_weakly list l.tag) l.fn.lists
