use Rattle.std.proofs.Common.{sym, ◌∙◌}
use Rattle.h1_fields.proofs.SpanLemmas.{fit_rest}
use Rattle.h1_fields.proofs.LivingLemmas.{values_behind}
use Rattle.h1_fields.proofs.gone.first_value.Goals as goal

pub loop-first-preserved : goal.loop-first-preserved
loop-first-preserved c =
    let first = c.in-Some.ensures.cases.0 in (
      fit_rest _ _ _ _ first c.loop-first.invariant.0,
      values_behind _ _ _ _ _ _ first (sym c.is_shown.ensures ∙ c.if-is_shown.false)
          ∙ c.loop-first.invariant.1,
    )
