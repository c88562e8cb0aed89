use Rattle.std.proofs.Common.{sym, ap, ◌∙◌}
use Rattle.h1_head.specs.Views.{RequestView}
use Rattle.h1_fields.specs.Codings.{has_coding_line}
use Rattle.h1_head.proofs.CheckLemmas.{coding_stays}
use Rattle.h1_head.proofs.request.RequestHeader.settle_length.Goals as goal

pub returns-then-both-clause-coded : goal.returns-then-both-clause-coded
returns-then-both-clause-coded c =
    c.requires ∙ sym (coding_stays c.args.self.now.fields)
    ∙ ap (λ (r : RequestView). has_coding_line r.fields) (sym c.remove_header.ensures.fields)
