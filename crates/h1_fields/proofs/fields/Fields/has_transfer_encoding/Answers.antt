use Rattle.std.proofs.Common.{is_some, codes, sym, ap, ◌∙◌}
use Rattle.h1_fields.specs.Lines.{first_of}
use Rattle.h1_fields.proofs.LineLemmas.{has_line_is}
use Rattle.h1_fields.proofs.fields.Fields.has_transfer_encoding.Goals as goal

pub returns-in-Nothing : goal.returns-in-Nothing
returns-in-Nothing c =
    sym (has_line_is (codes "Transfer-Encoding") _
    ∙ ap (λ values. is_some (first_of values)) (rw c.in-Nothing.is at c.lone.ensures))

pub returns-in-One : goal.returns-in-One
returns-in-One c =
    sym (has_line_is (codes "Transfer-Encoding") _
    ∙ ap (λ values. is_some (first_of values)) (rw c.in-One.is at c.lone.ensures))
