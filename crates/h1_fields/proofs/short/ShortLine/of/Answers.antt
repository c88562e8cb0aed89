use Rattle.std.proofs.Common.{◌∷◌, [], refl, ap}
use Rattle.h1_fields.proofs.SpanLemmas.{line_copied}
use Rattle.h1_fields.proofs.short.ShortLine.of.Goals as goal

pub returns : goal.returns
returns c =
    ap (λ line. line ∷ [])
    (line_copied c.args.name.now c.args.value.now _ _ _ _ _ _ _ c.copy_from_slice.ensures.after
    c.copy_from_slice-2.ensures.after refl refl c.from_start.ensures)
