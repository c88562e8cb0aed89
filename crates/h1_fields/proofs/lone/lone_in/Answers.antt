use Rattle.std.proofs.Common.{[], ◌∷◌, sym, ap, ◌∙◌}
use Rattle.h1_fields.proofs.KindLemmas.{one_there}
use Rattle.h1_fields.proofs.lone.lone_in.Goals as goal

pub returns-in-At : goal.returns-in-At
returns-in-At c =
    let placed = rw (sym c.place.ensures ∙ c.in-At.is) at (c.requires.1 c.args.kind) in
    one_there _ _ _ _ _ c.in-At.at c.if-gone-ne0.false placed
    ∙ ap (λ value. value ∷ []) (sym c.value.ensures)
