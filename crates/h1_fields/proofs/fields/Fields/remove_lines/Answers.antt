use Rattle.std.proofs.Common.{sym, ap, ◌∙◌}
use Rattle.h1_fields.specs.Held.{lines_in}
use Rattle.h1_fields.specs.Lines.{without}
use Rattle.h1_fields.specs.Living.{living}
use Rattle.h1_fields.proofs.LivingLemmas.{hidden_in}
use Rattle.h1_fields.proofs.fields.Fields.remove_lines.Goals as goal

pub returns-in-Read : goal.returns-in-Read
returns-in-Read c =
    hidden_in _ _ _ _ _ _ c.hide-self-inside.ensures (c.parts.ensures.lines ∙ c.deref.ensures)
    ∙ ap (λ held. without c.args.name.now (living c.self.inside.gone (lines_in held)))
    (sym c.in-Read.is)
    ∙ ap (without c.args.name.now) c.self.view_is
