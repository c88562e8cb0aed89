-- The first line of a name.
use Rattle.std.proofs.Common.{◌≡◌, ℕ, ◌+◌, ◌<◌, true, false, List, [], ◌∷◌, ◌++◌, option_map, length, get_or, take, drop, set, refl, sym, ap, ◌∙◌, arith, append_assoc}
use Rattle.std.proofs.lemmas.List.{drop_more, take_more, length-take-le, drop-map, take-map, length-map, get_or-map, map-set}
use Rattle.std.proofs.lemmas.List.Elements.{All-append, All-take, All-drop}
use Rattle.std.proofs.lemmas.Option.{slice_get_read}
use Rattle.std.proofs.Math.Seq.{set-append_seam, take-append_seam, drop-append_seam}
use Rattle.h1_fields.specs.Lines.{Line, is_named, has_line, values_of, first_value, with_line, without}
use Rattle.h1_fields.specs.declared.span.Span.{Span}
use Rattle.h1_fields.specs.Spans.{AllFit, Fits, IsPlaceOf, line_of, lines_of}
use Rattle.h1_fields.proofs.SpanLemmas.{lines_kept}
use Rattle.h1_fields.specs.Search.{IsFirstAt}

-- the list from the place of the line on
drop_here : (lines : List Line) (place : ℕ) (line : Line) → place < length lines
    → line ≡ get_or lines place line → drop place lines ≡ line ∷ drop (place + 1) lines
drop_here lines place line within is =
    drop_more lines place line within ∙ ap (λ first. first ∷ drop (place + 1) lines) (sym is)

-- a line of the name after lines of other names
first_here : (name : List ℕ) (lines : List Line) (place : ℕ) (line : Line)
    → place < length lines
    → line ≡ get_or lines place line → is_named name line ≡ true
    → has_line name (drop place lines) ≡ has_line name lines
    → first_value name (drop place lines) ≡ first_value name lines
    → ((value : List ℕ)
    → take place lines ++ with_line name value (drop place lines) ≡ with_line name value lines)
    → IsFirstAt name lines place
first_here name lines place line within is named has gives puts =
    let here = drop_here lines place line within is in
    record {
      within = within;
      present = sym has ∙ ap (has_line name) here ∙ rw named refl;
      value =
          sym gives ∙ ap (first_value name) here ∙ rw named refl
          ∙ ap (option_map (λ (l : Line). l.1))
          (sym (slice_get_read lines (length lines) place line refl within is));
      put =
          λ value. sym (puts value)
          ∙ ap (λ rest. take place lines ++ with_line name value rest) here ∙ rw named refl;
    }

-- the same, where the lines lie in a text
pub first_span : (name text : List ℕ) (spans : List Span) (place : ℕ) (other : Span)
    → place < length spans → is_named name (line_of text (get_or spans place other)) ≡ true
    → has_line name (lines_of text (drop place spans)) ≡ has_line name (lines_of text spans)
    → first_value name (lines_of text (drop place spans)) ≡ first_value name (lines_of text spans)
    → ((value : List ℕ)
    → lines_of text (take place spans) ++ with_line name value (lines_of text (drop place spans))
    ≡ with_line name value (lines_of text spans))
    → IsFirstAt name (lines_of text spans) place
first_span name text spans place other within named has gives puts =
    let line : Line = line_of text (get_or spans place other) in
    let back : drop place (lines_of text spans) ≡ lines_of text (drop place spans) =
    drop-map (line_of text) place spans in
    let front : take place (lines_of text spans) ≡ lines_of text (take place spans) =
    take-map (line_of text) place spans in
    first_here name (lines_of text spans) place line
    (rw (length-map spans (line_of text)) within)
    (sym (get_or-map (line_of text) spans place other line within)) named
    (ap (has_line name) back ∙ has) (ap (first_value name) back ∙ gives)
    (λ value. ap (λ lines. lines ++ with_line name value (drop place (lines_of text spans))) front
    ∙ ap (λ lines. lines_of text (take place spans) ++ with_line name value lines) back
    ∙ puts value)

-- a line of the name between two others is gone
pub removed_here : (name text : List ℕ) (spans after : List Span) (place : ℕ) (other : Span)
    → place < length spans → after ≡ take place spans ++ drop (place + 1) spans
    → is_named name (line_of text (get_or spans place other)) ≡ true
    → lines_of text (take place after) ++ without name (lines_of text (drop place after))
    ≡ lines_of text (take place spans) ++ without name (lines_of text (drop place spans))
removed_here name text spans after place other within is named =
    let front = take place spans in
    let rest = drop (place + 1) spans in
    let len : length front ≡ place = length-take-le place spans (omega arith) in
    let before : take place after ≡ front =
    ap (take place) is ∙ ap (λ n. take n (front ++ rest)) (sym len) ∙ take-append_seam front rest in
    let behind : drop place after ≡ rest =
    ap (drop place) is ∙ ap (λ n. drop n (front ++ rest)) (sym len) ∙ drop-append_seam front rest in
    ap (λ xs. lines_of text xs ++ without name (lines_of text (drop place after))) before
    ∙ ap (λ xs. lines_of text front ++ without name (lines_of text xs)) behind
    ∙ sym
    (ap (λ xs. lines_of text front ++ without name (lines_of text xs))
    (drop_more spans place other within) ∙ rw named refl)

pub fit_removed : (text : List ℕ) (spans after : List Span) (place : ℕ)
    → after ≡ take place spans ++ drop (place + 1) spans → AllFit text spans → AllFit text after
fit_removed text spans after place is fit =
    let fits = Fits (length text) in
    rw is (All-append fits (take place spans) (drop (place + 1) spans)
    (All-take fits place spans fit) (All-drop fits (place + 1) spans fit))

-- a line of another name adds no value
pub values_behind : (name text : List ℕ) (spans left : List Span) (span : Span)
    → spans ≡ span ∷ left → is_named name (line_of text span) ≡ false
    → values_of name (lines_of text left) ≡ values_of name (lines_of text spans)
values_behind name text spans left span is other = rw (is, other) refl

-- a write at the place after which the rest was changed
pub put_here : (lines rest : List Line) (place : ℕ) (line : Line) → place < length lines
    → set (take (place + 1) lines ++ rest) place line ≡ take place lines ++ line ∷ rest
put_here lines rest place line within =
    let front = take place lines in
    let old = get_or lines place line in
    let split : take (place + 1) lines ++ rest ≡ front ++ old ∷ rest =
    ap (λ xs. xs ++ rest) (take_more lines place line within)
    ∙ append_assoc front (old ∷ []) rest in
    let len : length front ≡ place = length-take-le place lines (omega arith) in
    ap (λ xs. set xs place line) split
    ∙ ap (λ n. set (front ++ old ∷ rest) n line) (sym len)
    ∙ set-append_seam front old rest line

-- the new line in the place of the first, and later ones gone
pub insert_here : (name value old new : List ℕ) (spans left : List Span) (place : ℕ) (span : Span)
    → IsFirstAt name (lines_of old spans) place → take (length old) new ≡ old → AllFit old spans
    → IsPlaceOf new name value span
    → lines_of new left
    ≡ lines_of new (take (place + 1) spans) ++ without name (lines_of new (drop (place + 1) spans))
    → lines_of new (set left place span) ≡ with_line name value (lines_of old spans)
insert_here name value old new spans left place span first kept fit put gone =
    let lines = lines_of old spans in
    let same : lines_of new spans ≡ lines = lines_kept old new spans kept fit in
    let rest : List Line = without name (drop (place + 1) lines) in
    let joined : lines_of new left ≡ take (place + 1) lines ++ rest =
    gone
    ∙ ap (λ front. front ++ without name (lines_of new (drop (place + 1) spans)))
    (sym (take-map (line_of new) (place + 1) spans))
    ∙ ap (λ behind. take (place + 1) (lines_of new spans) ++ without name behind)
    (sym (drop-map (line_of new) (place + 1) spans))
    ∙ ap (λ xs. take (place + 1) xs ++ without name (drop (place + 1) xs)) same in
    map-set (line_of new) left place span
    ∙ ap (λ xs. set xs place (line_of new span)) joined
    ∙ ap (λ line. set (take (place + 1) lines ++ rest) place line) put.line
    ∙ put_here lines rest place (name, value) first.within
    ∙ sym (first.put value)
