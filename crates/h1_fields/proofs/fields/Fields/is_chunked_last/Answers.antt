use Rattle.std.proofs.Common.{false, sym, ap, ◌∙◌}
use Rattle.std.proofs.lemmas.Slice.Eq.{bytes_eq-Decides}
use Rattle.h1_fields.specs.Codings.{ends_chunked, without_empty}
use Rattle.h1_fields.specs.ListParts.{list_parts}
use Rattle.h1_fields.proofs.PlainLemmas.{chunked_alone}
use Rattle.h1_fields.proofs.fields.Fields.is_chunked_last.Goals as goal

pub returns-then-eq : goal.returns-then-eq
returns-then-eq c =
    let same = (bytes_eq-Decides _ _).0 (sym c.eq.ensures ∙ c.if-eq.true) in
    c.if-eq.true
    ∙ sym (ap (λ values. ends_chunked false (without_empty (list_parts values)))
    (rw c.in-One.is at c.lone.ensures)
    ∙ chunked_alone _ (same ∙ c.as_slice.ensures))
