use Rattle.std.proofs.Common.{◌∙◌}
use Rattle.h1_fields.proofs.LivingLemmas.{living_all}
use Rattle.h1_fields.proofs.fields.Fields.of_lines.Goals as goal

pub returns-then-len-le-MAX_TEXT-clause-ok : goal.returns-then-len-le-MAX_TEXT-clause-ok
returns-then-len-le-MAX_TEXT-clause-ok c = living_all _ ∙ c.in_ok-of_head.ensures.ok
