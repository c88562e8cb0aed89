use Rattle.std.proofs.Common.{sym, ◌∙◌}
use Rattle.h1_fields.proofs.SpanLemmas.{fit_rest}
use Rattle.h1_fields.proofs.LivingLemmas.{values_behind}
use Rattle.h1_fields.proofs.iter.ValuesIterIterator.next.Goals as goal

pub invariant_of-self-then-is_shown : goal.invariant_of-self-then-is_shown
invariant_of-self-then-is_shown c =
    fit_rest _ _ _ _ c.in-Some-split_first.ensures.cases.0 c.loop-first.invariant.0

pub loop-first-preserved : goal.loop-first-preserved
loop-first-preserved c =
    let before = c.loop-first.invariant in
    let first = c.in-Some-split_first.ensures.cases.0 in (
      fit_rest _ _ _ _ first before.0,
      before.1,
      values_behind _ _ _ _ _ _ first (sym c.is_shown-is_shown.ensures ∙ c.if-is_shown.false)
          ∙ before.2,
    )
