use Rattle.std.proofs.Common.{length, ap, ◌∙◌, arith}
use Rattle.h1_fields.specs.Lines.{without}
use Rattle.h1_fields.specs.Living.{living}
use Rattle.h1_fields.proofs.LivingLemmas.{hidden_in, without_short}
use Rattle.h1_fields.proofs.fields.remove_from.Goals as goal

pub returns-then-gone-eq0-clause-few : goal.returns-then-gone-eq0-clause-few
returns-then-gone-eq0-clause-few c =
    let short = without_short c.args.name.now c.in-Some.block.now in
    omega (arith, short, ap length c.remove.ensures, ap length c.in-Some.ensures.value, c.requires)

pub returns-in-None-clause-lines : goal.returns-in-None-clause-lines
returns-in-None-clause-lines c =
    hidden_in _ _ _ _ _ _ c.hide.ensures (c.parts.ensures.lines ∙ c.deref.ensures)

pub returns-else-gone-eq0-clause-lines : goal.returns-else-gone-eq0-clause-lines
returns-else-gone-eq0-clause-lines c =
    hidden_in _ _ _ _ _ _ c.hide-in-Some.ensures c.parts-in-Some.ensures.lines
    ∙ ap (λ lines. without c.args.name.now (living c.args.gone lines)) c.in-Some.ensures.value
