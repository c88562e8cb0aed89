use Rattle.std.proofs.Common.{sym, ◌∙◌}
use Rattle.h1_fields.proofs.KindLemmas.{length_in_lower_case}
use Rattle.h1_fields.proofs.NameLemmas.{same_name_found}
use Rattle.h1_fields.proofs.kinds.is_content_length.Goals as goal

pub returns-then-eq : goal.returns-then-eq
returns-then-eq c =
    c.if-eq.true
    ∙ sym (same_name_found _ _ (sym (rw c.as_slice.ensures at c.eq.ensures) ∙ c.if-eq.true))

pub returns-else-eq : goal.returns-else-eq
returns-else-eq c = c.is_same_name.ensures ∙ length_in_lower_case _
