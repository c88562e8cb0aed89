use Rattle.std.proofs.Common.{sym, ap, codes, ◌∙◌}
use Rattle.std.specs.List.{list_any}
use Rattle.std.proofs.lemmas.Slice.Eq.{bytes_eq-Decides}
use Rattle.h1_fields.specs.ListParts.{list_parts}
use Rattle.h1_fields.specs.Names.{same_name}
use Rattle.h1_fields.proofs.PlainLemmas.{close_alone, keep_alive_alone}
use Rattle.h1_fields.proofs.fields.Fields.lists_close.Goals as goal

pub returns-then-eq : goal.returns-then-eq
returns-then-eq c =
    let same = (bytes_eq-Decides _ _).0 (sym c.eq.ensures ∙ c.if-eq.true) in
    sym (ap (λ values. list_any (same_name (codes "close")) (list_parts values))
    (rw c.in-One.is at c.lone.ensures)
    ∙ keep_alive_alone _ (same ∙ c.as_slice.ensures))

pub returns-then-eq-2 : goal.returns-then-eq-2
returns-then-eq-2 c =
    let same = (bytes_eq-Decides _ _).0 (sym c.eq-in-One.ensures ∙ c.if-eq-2.true) in
    c.if-eq-2.true
    ∙ sym (ap (λ values. list_any (same_name (codes "close")) (list_parts values))
    (rw c.in-One.is at c.lone.ensures)
    ∙ close_alone _ (same ∙ c.as_slice-in-One.ensures))
