use Rattle.std.proofs.Common.{sym, ap, ◌∙◌}
use Rattle.h1_fields.specs.declared.content_length.ContentLength.TheVariants.{Absent}
use Rattle.h1_fields.specs.ContentLength.{agreed}
use Rattle.h1_fields.specs.ListParts.{list_parts}
use Rattle.h1_fields.proofs.PlainLemmas.{number_alone}
use Rattle.h1_fields.proofs.fields.Fields.content_length.Goals as goal

pub returns-in-Some : goal.returns-in-Some
returns-in-Some c =
    sym (ap (λ values. agreed Absent (list_parts values)) (rw c.in-One.is at c.lone.ensures)
    ∙ number_alone c.in-One.value.now c.in-Some.n (sym c.number_of.ensures ∙ c.in-Some.is))
