-- Lines of which some are gone.
use Rattle.std.proofs.Common.{◌≡◌, ◌≢◌, Option, None, Some, is_some, option_map, ℕ, zero, suc, ◌+◌, ◌*◌, ◌/◌, ◌%◌, ◌^◌, ◌<◌, ◌≤◌, ◌==◌, Bool, true, false, cond, List, [], ◌∷◌, length, refl, sym, ap, ◌∙◌, arith}
use Rattle.std.proofs.lemmas.Bool.{ne_eqb}
use Rattle.std.proofs.lemmas.List.{length-map}
use Rattle.h1_fields.specs.Lines.{Line, is_named, has_line, values_of, first_value, with_line, without}
use Rattle.h1_fields.proofs.LineLemmas.{has_line_is}
use Rattle.h1_fields.specs.Living.{living, is_shown, hidden}
use Rattle.h1_fields.specs.Spans.{line_of, lines_of}
use Rattle.h1_fields.specs.declared.span.Span.{Span}

-- nothing is gone
pub living_all : (lines : List Line) → living 0 lines ≡ lines
living_all [] = refl
living_all (line ∷ lines) = ap (λ xs. line ∷ xs) (living_all lines)

half : (n b : ℕ) → b < 2 → (2 * n + b) / 2 ≡ n
half n b small = omega arith

rest : (n b : ℕ) → b < 2 → (2 * n + b) % 2 ≡ b
rest n b small = omega arith

-- the lowest bit tells of the first line, and the others of those behind it
living_bit : (n b : ℕ) (line : Line) (lines : List Line) → b < 2
    → living (2 * n + b) (line ∷ lines)
    ≡ cond (b == 0) (line ∷ living n lines) (living n lines)
living_bit n b line lines small = rw (rest n b small, half n b small) refl

pub living-hidden : (name : List ℕ) (gone : ℕ) (lines : List Line)
    → living (hidden name gone lines) lines ≡ without name (living gone lines)
living-hidden name gone [] = refl
living-hidden name gone (line ∷ lines) =
    by_tests (living-hidden name (gone / 2) lines) (is_named name line) refl (gone % 2 == 0) refl
  where
    by_tests : living (hidden name (gone / 2) lines) lines ≡ without name (living (gone / 2) lines)
        → (named : Bool) → is_named name line ≡ named → (there : Bool) → (gone % 2 == 0) ≡ there
        → living (hidden name gone (line ∷ lines)) (line ∷ lines)
        ≡ without name (living gone (line ∷ lines))
    by_tests same true named true there =
        rw (named, there, living_bit (hidden name (gone / 2) lines) 1 line lines (omega arith)) (rw named same)
    by_tests same true named false there =
        rw (named, there, living_bit (hidden name (gone / 2) lines) 1 line lines (omega arith)) same
    by_tests same false named true there =
        rw (named, living_bit (hidden name (gone / 2) lines) (gone % 2) line lines (omega arith), there)
        (rw named (ap (λ xs. line ∷ xs) same))
    by_tests same false named false there =
        rw (named, living_bit (hidden name (gone / 2) lines) (gone % 2) line lines (omega arith), there) same

-- so many bits are enough
pub hidden_below : (name : List ℕ) (k gone : ℕ) (lines : List Line) → length lines ≤ k
    → gone < 2 ^ k → hidden name gone lines < 2 ^ k
hidden_below name k gone [] few below = below
hidden_below name zero gone (line ∷ lines) few below = omega arith
hidden_below name (suc k) gone (line ∷ lines) few below =
    let halved : gone / 2 < 2 ^ k = omega arith in
    let behind : hidden name (gone / 2) lines < 2 ^ k =
    hidden_below name k (gone / 2) lines (omega arith) halved in
    by_test behind (is_named name line) refl
  where
    by_test : hidden name (gone / 2) lines < 2 ^ k → (named : Bool) → is_named name line ≡ named
        → hidden name gone (line ∷ lines) < 2 ^ suc k
    by_test behind true named = rw named (omega (arith, behind))
    by_test behind false named = rw named (omega (arith, behind))

-- a first line that is gone
pub living_behind : (text : List ℕ) (spans left : List Span) (span : Span) (gone : ℕ)
    → spans ≡ span ∷ left → gone % 2 ≢ 0
    → living (gone / 2) (lines_of text left) ≡ living gone (lines_of text spans)
living_behind text spans left span gone is odd =
    let test : (gone % 2 == 0) ≡ false = ne_eqb (gone % 2) 0 odd in
    rw (is, test) refl

-- a first line that is gone or has another name adds no value
pub values_behind : (name text : List ℕ) (spans left : List Span) (span : Span) (gone : ℕ)
    → spans ≡ span ∷ left → is_shown name gone (line_of text span) ≡ false
    → values_of name (living (gone / 2) (lines_of text left))
    ≡ values_of name (living gone (lines_of text spans))
values_behind name text spans left span gone is other =
    rw is (by_test (gone % 2 == 0) refl other)
  where
    by_test : (there : Bool) → (gone % 2 == 0) ≡ there
        → is_shown name gone (line_of text span) ≡ false
        → values_of name (living (gone / 2) (lines_of text left))
        ≡ values_of name (living gone (lines_of text (span ∷ left)))
    by_test true there other = rw there (rw (rw there at other) refl)
    by_test false there other = rw there refl

-- no lines come to those that there are
pub living_short : (gone : ℕ) (lines : List Line) → length (living gone lines) ≤ length lines
living_short gone [] = omega arith
living_short gone (line ∷ lines) =
    by_test (living_short (gone / 2) lines) (gone % 2 == 0) refl
  where
    by_test : length (living (gone / 2) lines) ≤ length lines → (there : Bool)
        → (gone % 2 == 0) ≡ there → length (living gone (line ∷ lines)) ≤ length (line ∷ lines)
    by_test short true there = rw there (omega (arith, short))
    by_test short false there = rw there (omega (arith, short))

pub values_short : (name : List ℕ) (lines : List Line)
    → length (values_of name lines) ≤ length lines
values_short name [] = omega arith
values_short name (line ∷ lines) =
    by_test (values_short name lines) (is_named name line) refl
  where
    by_test : length (values_of name lines) ≤ length lines → (named : Bool)
        → is_named name line ≡ named
        → length (values_of name (line ∷ lines)) ≤ length (line ∷ lines)
    by_test short true named = rw named (omega (arith, short))
    by_test short false named = rw named (omega (arith, short))

-- the number that tells what is gone behind the first line leaves room for one bit more
pub hidden_fits : (name text : List ℕ) (spans more : List Span) (span : Span) (gone n : ℕ)
    → spans ≡ span ∷ more → length spans ≤ 64 → gone < 2 ^ 64
    → n ≡ hidden name (gone / 2) (lines_of text more) → 2 * n + 1 < 2 ^ 64
hidden_fits name text spans more span gone n is few fits hides =
    let short : length more ≤ 63 = omega (arith, ap length is, few) in
    let few_lines : length (lines_of text more) ≤ 63 = rw (length-map more (line_of text)) short in
    let below : hidden name (gone / 2) (lines_of text more) < 2 ^ 63 =
    hidden_below name 63 (gone / 2) (lines_of text more) few_lines (omega (arith, fits)) in
    omega (arith, below, hides)

-- a line is there where its value was found
pub found_is : {A : Type 0} (value_of : A → List ℕ) (found : Option A) (name : List ℕ)
    (lines : List Line) → option_map value_of found ≡ first_value name lines
    → is_some found ≡ has_line name lines
found_is value_of None name lines is = ap is_some is ∙ sym (has_line_is name lines)
found_is value_of (Some value) name lines is = ap is_some is ∙ sym (has_line_is name lines)

pub without_short : (name : List ℕ) (lines : List Line) → length (without name lines) ≤ length lines
without_short name [] = omega arith
without_short name (line ∷ lines) =
    by_test (without_short name lines) (is_named name line) refl
  where
    by_test : length (without name lines) ≤ length lines → (named : Bool)
        → is_named name line ≡ named
        → length (without name (line ∷ lines)) ≤ length (line ∷ lines)
    by_test short true named = rw named (omega (arith, short))
    by_test short false named = rw named (omega (arith, short))

pub with_line_short : (name value : List ℕ) (lines : List Line)
    → length (with_line name value lines) ≤ length lines + 1
with_line_short name value [] = omega arith
with_line_short name value (line ∷ lines) =
    by_test (with_line_short name value lines) (is_named name line) refl
  where
    by_test : length (with_line name value lines) ≤ length lines + 1 → (named : Bool)
        → is_named name line ≡ named
        → length (with_line name value (line ∷ lines)) ≤ length (line ∷ lines) + 1
    by_test short true named = rw named (omega (arith, without_short name lines))
    by_test short false named = rw named (omega (arith, short))

pub lines_short : (text : List ℕ) (spans : List Span) (gone : ℕ) (lines : List Line)
    → lines ≡ living gone (lines_of text spans) → length lines ≤ length spans
lines_short text spans gone lines is =
    let short : length (living gone (lines_of text spans)) ≤ length (lines_of text spans) =
    living_short gone (lines_of text spans) in
    omega (arith, ap length is, short, length-map spans (line_of text))

pub values_shorter : (name text : List ℕ) (spans : List Span) (gone : ℕ) (values : List (List ℕ))
    → values ≡ values_of name (living gone (lines_of text spans)) → length values ≤ length spans
values_shorter name text spans gone values is =
    let lines = living gone (lines_of text spans) in
    let short : length (values_of name lines) ≤ length lines = values_short name lines in
    omega (arith, ap length is, short, lines_short text spans gone lines refl)

-- what tells which lines of a text are gone tells it of the block that they stand in
pub hidden_in : (name text : List ℕ) (spans : List Span) (gone n : ℕ) (lines : List Line)
    → n ≡ hidden name gone (lines_of text spans) → lines_of text spans ≡ lines
    → living n lines ≡ without name (living gone lines)
hidden_in name text spans gone n lines hides are =
    ap (λ flags. living flags lines) (hides ∙ ap (hidden name gone) are)
    ∙ living-hidden name gone lines
