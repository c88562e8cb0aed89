use Rattle.std.proofs.Common.{◌∙◌}
use Rattle.h1_fields.proofs.LivingLemmas.{found_is}
use Rattle.h1_fields.proofs.fields.Fields.contains.Goals as goal

pub returns : goal.returns
returns c = c.is_some.ensures ∙ found_is _ _ _ _ c.get.ensures
