use Rattle.std.proofs.Common.{◌≡◌, length, set, ap, ◌∙◌}
use Rattle.std.proofs.lemmas.Result.{MatchResult-from_err}
use Rattle.std.proofs.lemmas.List.Elements.{All-set}
use Rattle.h1_fields.specs.Lines.{with_line}
use Rattle.h1_fields.specs.Spans.{Fits, lines_of}
use Rattle.h1_fields.proofs.SpanLemmas.{lines_kept, places_set}
use Rattle.h1_fields.proofs.SearchLemmas.{insert_here}
use Rattle.h1_fields.proofs.KindLemmas.{known_kept, known_moved}
use Rattle.h1_fields.proofs.block.Block.insert.Goals as goal

pub returns-in_err-span-in-Some-clause-same : goal.returns-in_err-span-in-Some-clause-same
returns-in_err-span-in-Some-clause-same c =
    MatchResult-from_err _ _ _ c.from_residual.ensures.0
    (λ _. lines_kept _ _ _ c.write.ensures.kept c.self.invariant.0 ∙ c.self.view_is)

pub invariant_of-self : goal.invariant_of-self
invariant_of-self c = known_kept _ _ _ _ c.write.ensures.kept c.self.invariant

put : (c : goal.After-self-in-Some-1)
    → lines_of c.write.new.text
    (set c.remove_named.new.spans.items c.in-Some.at c.in_ok-span-in-Some.span)
    ≡ with_line c.args.name.now c.args.value.now
    (lines_of c.self.inside.text c.self.inside.lines.items)
put c =
    let first = rw (c.as_slice.ensures, c.as_slice-2.ensures) at c.in-Some.ensures in
    let gone = rw c.as_slice-in-Some.ensures at c.remove_named.ensures.lines in
    insert_here _ _ _ _ _ _ _ _ first c.write.ensures.kept c.self.invariant.0
    c.in_ok-span-in-Some.ensures.ok gone

pub invariant_of-self-in-Some : goal.invariant_of-self-in-Some
invariant_of-self-in-Some c =
    let text = c.write.new.text in
    let fit = rw c.as_slice-in-Some.ensures at c.remove_named.ensures.fit in
    rw (places_set c.remove_named.new.spans _ c.in-Some.at c.in_ok-span-in-Some.span c.as_mut_slice.ensures.value)
    (known_moved text _ _ c.moved-self-inside.ensures
    (All-set (Fits (length text)) _ _ _ c.in_ok-span-in-Some.ensures.ok.fits fit))

pub returns-in_ok-span-in-Some-clause-ok : goal.returns-in_ok-span-in-Some-clause-ok
returns-in_ok-span-in-Some-clause-ok c =
    ap (lines_of c.write.new.text)
    (places_set c.remove_named.new.spans _ c.in-Some.at c.in_ok-span-in-Some.span c.as_mut_slice.ensures.value)
    ∙ put c ∙ ap (with_line c.args.name.now c.args.value.now) c.self.view_is
