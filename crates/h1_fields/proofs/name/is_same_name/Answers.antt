use Rattle.std.proofs.Common.{sym, ◌∙◌}
use Rattle.h1_fields.proofs.NameLemmas.{same_name_equal}
use Rattle.h1_fields.proofs.name.is_same_name.Goals as goal

pub returns-then-eq : goal.returns-then-eq
returns-then-eq c =
    c.if-eq.true ∙ sym (same_name_equal _ _ (sym c.eq.ensures ∙ c.if-eq.true))
