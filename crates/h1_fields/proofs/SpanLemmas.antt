-- The lines of a text that grows.
use Rattle.std.proofs.Common.{◌≡◌, ℕ, ◌+◌, ◌<◌, ◌≤◌, ◌-◌, List, [], ◌∷◌, ◌++◌, length, map, get_or, take, drop, set, refl, sym, ap, ◌∙◌, arith}
use Rattle.std.proofs.lemmas.List.{take_all, take_at, drop_at, take_more, length-set, take-append-drop, take-append-le, drop-append-le, length-drop, length-append, map-append}
use Rattle.std.proofs.lemmas.List.Elements.{All-head, All-tail, All-rest, All-push, All-weaker}
use Rattle.std.specs.List.{slice_range, refill}
use Rattle.std.proofs.lemmas.Slice.{take-put_mid}
use borrow.Rule.Slice.PartMut.{put_mid}
use Rattle.httparse.specs.declared.spans.HeaderSpan.{HeaderSpan}
use Rattle.httparse.specs.Spans.{header_bytes}
use Rattle.smallvec.specs.SmallVec.{SmallVec}
use Rattle.smallvec.proofs.SmallVecLemmas.{items-with_items}
use Rattle.h1_fields.specs.declared.span.Span.{Span}
use Rattle.h1_fields.specs.Lines.{Line}
use Rattle.h1_fields.specs.Spans.{AllFit, Fits, IsPlaceOf, line_of, lines_of}

-- a part of the old text is the same part of the new one
part_grown : (old more : List ℕ) (start end : ℕ) → start ≤ end → end ≤ length old
    → slice_range (old ++ more) start end ≡ slice_range old start end
part_grown old more start end order within =
    ap (take (end - start)) (drop-append-le start old more (omega arith))
    ∙ take-append-le (end - start) (drop start old) more (omega (arith, length-drop start old))

line_grown : (old more : List ℕ) (span : Span) → Fits (length old) span
    → line_of (old ++ more) span ≡ line_of old span
line_grown old more span fits =
    let name = part_grown old more span.name span.name_end fits.name fits.name_within in
    let value = part_grown old more span.value span.value_end fits.value fits.value_within in
    cc

lines_grown : (old more : List ℕ) (spans : List Span) → AllFit old spans
    → lines_of (old ++ more) spans ≡ lines_of old spans
lines_grown old more [] fit = refl
lines_grown old more (span ∷ spans) fit =
    let here = line_grown old more span (All-head (Fits (length old)) span spans fit) in
    let rest = lines_grown old more spans (All-tail (Fits (length old)) span spans fit) in
    cc

-- a text that begins with the old one
behind : (old new : List ℕ) → take (length old) new ≡ old → new ≡ old ++ drop (length old) new
behind old new kept =
    sym (take-append-drop (length old) new) ∙ ap (λ front. front ++ drop (length old) new) kept

-- the lines of the old text are those of the new one
pub lines_kept : (old new : List ℕ) (spans : List Span) → take (length old) new ≡ old
    → AllFit old spans → lines_of new spans ≡ lines_of old spans
lines_kept old new spans kept fit =
    ap (λ text. lines_of text spans) (behind old new kept)
    ∙ lines_grown old (drop (length old) new) spans fit

pub fit_kept : (old new : List ℕ) (spans : List Span) → take (length old) new ≡ old
    → AllFit old spans → AllFit new spans
fit_kept old new spans kept fit =
    let longer : length old ≤ length new =
    omega (arith, ap length (behind old new kept), length-append old (drop (length old) new)) in
    All-weaker (Fits (length old)) (Fits (length new)) (wider longer) spans fit
  where
    wider : length old ≤ length new → (span : Span) → Fits (length old) span
        → Fits (length new) span
    wider longer span fits =
        record {
          name = fits.name;
          name_within = omega (arith, fits.name_within);
          value = fits.value;
          value_within = omega (arith, fits.value_within);
        }

-- a line that was written behind the old text
pub fit_added : (old new name value : List ℕ) (spans after : List Span) (span : Span)
    → take (length old) new ≡ old → AllFit old spans → IsPlaceOf new name value span
    → after ≡ spans ++ span ∷ [] → AllFit new after
fit_added old new name value spans after span kept fit place added =
    rw added (All-push (Fits (length new)) spans span (fit_kept old new spans kept fit) place.fits)

pub lines_added : (old new name value : List ℕ) (spans after : List Span) (span : Span)
    → take (length old) new ≡ old → AllFit old spans → IsPlaceOf new name value span
    → after ≡ spans ++ span ∷ []
    → lines_of new after ≡ lines_of old spans ++ (name, value) ∷ []
lines_added old new name value spans after span kept fit place added =
    ap (lines_of new) added ∙ map-append (line_of new) spans (span ∷ [])
    ∙ ap (λ lines. lines ++ line_of new span ∷ []) (lines_kept old new spans kept fit)
    ∙ ap (λ line. lines_of old spans ++ line ∷ []) place.line

-- the lines behind the first
pub fit_rest : (text : List ℕ) (spans left : List Span) (span : Span) → spans ≡ span ∷ left
    → AllFit text spans → AllFit text left
fit_rest text spans left span is fit = All-rest (Fits (length text)) span left spans is fit

-- places of which one was written
pub places_set : (spans : SmallVec Span) (slice : List Span) (place : ℕ) (span : Span)
    → slice ≡ spans.items
    → refill (length spans.items) spans.items (set slice place span) ≡ set spans.items place span
places_set spans slice place span is =
    items-with_items spans (set slice place span)
    (length-set slice place span ∙ ap length is)
    ∙ ap (λ items. set items place span) is

-- a line that lies in the text is added
pub line_found : (text name value : List ℕ) (spans after : List Span) (span : Span)
    → AllFit text spans → IsPlaceOf text name value span → after ≡ spans ++ span ∷ []
    → lines_of text after ≡ lines_of text spans ++ (name, value) ∷ []
line_found text name value spans after span fit place added =
    lines_added text text name value spans after span (take_all _ text (omega arith)) fit place added

-- the lines at so many places that the parser found, and at one more
pub found_more : (head : List ℕ) (spans : List HeaderSpan) (place : ℕ) (span : HeaderSpan)
    (lines : List Line) → place < length spans
    → lines ≡ map (header_bytes head) (take place spans)
    → lines ++ header_bytes head (get_or spans place span) ∷ []
    ≡ map (header_bytes head) (take (place + 1) spans)
found_more head spans place span lines within are =
    let next = get_or spans place span in
    ap (λ front. front ++ header_bytes head next ∷ []) are
    ∙ sym (map-append (header_bytes head) (take place spans) (next ∷ []))
    ∙ ap (map (header_bytes head)) (sym (take_more spans place span within))

-- A name and a value that were copied to the front of a text, one behind the other, are the line
-- that lies there.
pub line_copied : (name value rest front back : List ℕ) (n v k : ℕ) (span : Span)
    → front ≡ name → back ≡ value → n ≡ length name → v ≡ length value
    → span ≡ record { name = 0; name_end = n; value = n; value_end = n + v }
    → line_of (take (n + v) (put_mid n k (front ++ rest) back)) span ≡ (name, value)
line_copied name value rest front back n v k span is_name is_value long wide is =
    let filled : take (n + v) (put_mid n k (front ++ rest) back) ≡ name ++ value =
    take-put_mid n k (front ++ rest) back (n + v) (omega (arith, ap length is_value, wide))
    (omega (arith, length-append front rest, ap length is_name, long))
    ∙ ap (λ text. text ++ back) (take_at front rest n (ap length is_name ∙ sym long))
    ∙ ap (λ text. text ++ back) is_name ∙ ap (λ text. name ++ text) is_value in
    let all : n - 0 ≡ n = omega arith in
    let named : slice_range (name ++ value) 0 n ≡ name =
    ap (λ m. take m (name ++ value)) all ∙ take_at name value n (sym long) in
    let valued : slice_range (name ++ value) n (n + v) ≡ value =
    ap (take (n + v - n)) (drop_at name value n (sym long))
    ∙ take_all (n + v - n) value (omega (arith, wide)) in
    ap (λ text. line_of text span) filled ∙ ap (line_of (name ++ value)) is
    ∙ ap (λ front. (front, slice_range (name ++ value) n (n + v))) named
    ∙ ap (λ back. (name, back)) valued
