-- A request that was read can be written as it stands.
use Rattle.std.proofs.Common.{◌≡◌, ℕ, suc, ◌+◌, ◌≤◌, ◌&&◌, Bool, true, false, All, None, is_some, List, [], ◌∷◌, ◌++◌, length, map, reverse, refl, sym, ap, ◌∙◌, subst, arith, length-append, codes}
use Rattle.std.proofs.lemmas.Bool.{cond-true}
use Rattle.std.proofs.lemmas.List.{length-map, reverse-append, reverse-reverse}
use Rattle.std.proofs.lemmas.List.Elements.{All-cons, All-head, All-tail, All-map, All-weaker}
use Rattle.httparse.specs.Grammar.{Field, IsField, RequestHead, is_ows, is_value_byte, skip_ows, trim_ows}
use Rattle.httparse.specs.Spans.{name_and_value}
use Rattle.httparse.proofs.TrimLemmas.{AllPass-trim_ows}
use Rattle.h1_fields.specs.Codings.{has_coding_line}
use Rattle.h1_fields.specs.Lines.{Line, first_of, has_line, is_named, without}
use Rattle.h1_fields.proofs.LineLemmas.{has_line_is, values-without}
use Rattle.h1_head.specs.declared.limits.TheConstants.{MAX_HEADERS}
use Rattle.h1_head.specs.RequestFault.{first_fault, is_both, settled}
use Rattle.h1_head.specs.RequestGrammar.{IsHeadOf, request_of}
use Rattle.h1_head.specs.RequestHead.{HeadAt}
use Rattle.h1_head.specs.Views.{RequestView}
use Rattle.h1_forward.specs.Plain.{IsPlainLine, IsSoundPlain}

-- what is left is an end of the bytes
skipped : (bytes : List ℕ) → (front : List ℕ) × (bytes ≡ front ++ skip_ows bytes)
skipped [] = ([], refl)
skipped (b ∷ bytes) = by_test (skipped bytes) (is_ows b) refl
  where
    by_test : (front : List ℕ) × (bytes ≡ front ++ skip_ows bytes) → (t : Bool) → is_ows b ≡ t
        → (front : List ℕ) × (b ∷ bytes ≡ front ++ skip_ows (b ∷ bytes))
    by_test rest true blank = rw blank (b ∷ rest.0, ap (λ bs. b ∷ bs) rest.1)
    by_test rest false other = rw other ([], refl)

-- it begins with no white space
skip_again : (bytes : List ℕ) → skip_ows (skip_ows bytes) ≡ skip_ows bytes
skip_again [] = refl
skip_again (b ∷ bytes) = by_test (skip_again bytes) (is_ows b) refl
  where
    by_test : skip_ows (skip_ows bytes) ≡ skip_ows bytes → (t : Bool) → is_ows b ≡ t
        → skip_ows (skip_ows (b ∷ bytes)) ≡ skip_ows (b ∷ bytes)
    by_test again true blank = rw blank again
    by_test again false other = simp other

-- nor does a front of bytes that begin with none
skip_front : (bytes front rest : List ℕ) → skip_ows bytes ≡ bytes → bytes ≡ front ++ rest
    → skip_ows front ≡ front
skip_front bytes [] rest none split = refl
skip_front bytes (b ∷ front) rest none split = by_test (is_ows b) refl
  where
    by_test : (t : Bool) → is_ows b ≡ t → skip_ows (b ∷ front) ≡ b ∷ front
    by_test true blank =
        let shorter : skip_ows (front ++ rest) ≡ b ∷ (front ++ rest) =
        sym (cond-true _ _ _ blank) ∙ ap skip_ows (sym split) ∙ none ∙ split in
        let left = skipped (front ++ rest) in
        let long : length (front ++ rest) ≡ length left.0 + length (skip_ows (front ++ rest)) =
        ap length left.1 ∙ length-append left.0 (skip_ows (front ++ rest)) in
        let more : length (skip_ows (front ++ rest)) ≡ suc (length (front ++ rest)) =
        ap length shorter in
        absurd (omega arith)
    by_test false other = rw other refl

-- a value that was trimmed needs no trimming
pub trim_again : (bytes : List ℕ) → trim_ows (trim_ows bytes) ≡ trim_ows bytes
unfolding trim_ows
trim_again bytes =
    let y = skip_ows bytes in
    let z = skip_ows (reverse y) in
    let left = skipped (reverse y) in
    let split : y ≡ reverse z ++ reverse left.0 =
    sym (reverse-reverse y) ∙ ap reverse left.1 ∙ reverse-append left.0 z in
    let front : skip_ows (reverse z) ≡ reverse z =
    skip_front y (reverse z) (reverse left.0) (skip_again bytes) split in
    ap (λ bs. reverse (skip_ows (reverse bs))) front
    ∙ ap (λ bs. reverse (skip_ows bs)) (reverse-reverse z)
    ∙ ap reverse (skip_again (reverse y))

line_plain : (field : Field) → IsField field → IsPlainLine (name_and_value field)
line_plain field is = record {
  name = is.name;
  value = AllPass-trim_ows is_value_byte field.raw is.raw;
  trimmed = trim_again field.raw;
}

lines_plain : (fields : List Field) → All IsField fields → All IsPlainLine (map name_and_value fields)
lines_plain fields are =
    All-map IsPlainLine name_and_value fields
    (All-weaker IsField (λ field. IsPlainLine (name_and_value field)) line_plain fields are)

-- lines that are left stay what they are
All-without : (P : Line → Type 0) (name : List ℕ) (lines : List Line) → All P lines
    → All P (without name lines)
All-without P name [] all = all
All-without P name (line ∷ lines) all =
    by_test (All-without P name lines (All-tail P line lines all)) (is_named name line) refl
  where
    by_test : All P (without name lines) → (t : Bool) → is_named name line ≡ t
        → All P (without name (line ∷ lines))
    by_test rest true named = rw named rest
    by_test rest false other =
        rw other (All-cons P line (without name lines) (All-head P line lines all) rest)

fewer : (name : List ℕ) (lines : List Line) → length (without name lines) ≤ length lines
fewer name [] = omega arith
fewer name (line ∷ lines) = by_test (fewer name lines) (is_named name line) refl
  where
    by_test : length (without name lines) ≤ length lines → (t : Bool) → is_named name line ≡ t
        → length (without name (line ∷ lines)) ≤ length (line ∷ lines)
    by_test less true named = rw named (omega arith)
    by_test less false other = rw other (omega arith)

and_false : (a : Bool) → (a && false) ≡ false
and_false true = refl
and_false false = refl

none_left : (lines : List Line)
    → has_line (codes "Content-Length") (without (codes "Content-Length") lines) ≡ false
none_left lines =
    has_line_is (codes "Content-Length") (without (codes "Content-Length") lines)
    ∙ ap (λ values. is_some (first_of values)) (values-without (codes "Content-Length") lines)

-- the request of a head with these of its lines
abbrev with_lines : RequestHead → List Line → RequestView
with_lines spelled lines = record (request_of spelled) { fields = lines }

plain_lines : (spelled : RequestHead) (bytes : List ℕ) (lines : List Line) → IsHeadOf bytes spelled
    → All IsPlainLine lines → length lines ≤ MAX_HEADERS
    → is_both (with_lines spelled lines) ≡ false
    → first_fault (with_lines spelled lines) ≡ None → IsSoundPlain (with_lines spelled lines)
plain_lines spelled bytes lines head plain few one sound =
    let is = head.reads.0 in
    record {
      plain = record {
        method = is.method;
        target = record { some = is.target.0; visible = is.target.1; text = is.target_text };
        version = (spelled.minor, is.minor, refl);
        lines = plain;
        few = few;
        one_length = one;
      };
      sound = sound;
      told = refl;
    }

-- what a head of the grammar says is plain, once it is settled
said_plain : (spelled : RequestHead) (bytes : List ℕ) → IsHeadOf bytes spelled
    → first_fault (settled (request_of spelled)) ≡ None
    → IsSoundPlain (settled (request_of spelled))
said_plain spelled bytes head = by_test (is_both (request_of spelled)) refl
  where
    lines : List Line
    lines = map name_and_value spelled.fields

    many : length lines ≤ MAX_HEADERS
    many =
        let same : length (map name_and_value spelled.fields) ≡ length spelled.fields =
        length-map spelled.fields name_and_value in
        let few = head.few in
        omega arith

    all : All IsPlainLine lines
    all = lines_plain spelled.fields head.reads.0.fields

    by_test : (t : Bool) → is_both (request_of spelled) ≡ t
        → first_fault (settled (request_of spelled)) ≡ None
        → IsSoundPlain (settled (request_of spelled))
    by_test true both sound =
        let rest = without (codes "Content-Length") lines in
        let same : settled (request_of spelled) ≡ with_lines spelled rest = rw both refl in
        let less = fewer (codes "Content-Length") lines in
        let few : length rest ≤ MAX_HEADERS = omega (arith, many) in
        subst IsSoundPlain (sym same)
        (plain_lines spelled bytes rest head
        (All-without IsPlainLine (codes "Content-Length") lines all) few
        (ap (λ there. has_coding_line rest && there) (none_left lines)
        ∙ and_false (has_coding_line rest))
        (ap first_fault (sym same) ∙ sound))
    by_test false one sound =
        let same : settled (request_of spelled) ≡ with_lines spelled lines = rw one refl in
        subst IsSoundPlain (sym same)
        (plain_lines spelled bytes lines head all many one (ap first_fault (sym same) ∙ sound))

-- a request that was read is plain, and nothing is wrong with it
pub read_plain : (bytes : List ℕ) (n : ℕ) (request : RequestView) (both : Bool)
    → HeadAt bytes n request both → IsSoundPlain request
read_plain bytes n request both at =
    let is = at.accepted in
    let says = is.says in
    let same : settled (request_of says.0) ≡ request = ap settled says.2 ∙ sym is.request_is in
    subst IsSoundPlain same
    (said_plain says.0 is.raw says.1 (ap (λ r. first_fault (settled r)) says.2 ∙ is.sound))
