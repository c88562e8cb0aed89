use Rattle.std.proofs.Common.{sym, ◌∙◌}
use Rattle.h1_fields.proofs.SearchLemmas.{first_span}
use Rattle.h1_fields.proofs.span.first_named.Goals as goal

pub returns-then-is_named : goal.returns-then-is_named
returns-then-is_named c =
    let before = c.loop-at.invariant in
    first_span _ _ _ _ _ c.loop-at-test.true (sym c.is_named.ensures ∙ c.if-is_named.true)
    before.0 before.1 before.2
