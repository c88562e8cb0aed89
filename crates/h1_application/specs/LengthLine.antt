-- One Content-Length line with a number states this number (RFC 9112, section 6.2).
use Rattle.std.specs.Prelude.{◌≡◌, ◌<◌, ◌^◌, ℕ, List, [], ◌∷◌, Bool, true, false, ◌==◌, nat_lt, refl, codes, decimal}
use Rattle.std.proofs.Common.{arith, reverse}
use Rattle.std.specs.List.{list_all, All, AllByRecursion}
use Rattle.std.specs.Char.{digit_value}
use Rattle.std.specs.Str.Parse.{AllDigits}
use Rattle.std.proofs.lemmas.Bool.{ne_eqb, lt-ltb, ltb-true, false≢true}
use Rattle.std.proofs.lemmas.Fmt.{decimal_is_IsNumeral}
use Rattle.std.proofs.lemmas.List.{reverse-reverse}
use Rattle.std.proofs.lemmas.List.Elements.{All-from_recursion}
use Rattle.std.proofs.lemmas.List.Splits.{slice_split_none}
use Rattle.std.proofs.lemmas.List.Sums.{AllPass-from_list_all, list_all-from_AllPass}
use Rattle.std.proofs.lemmas.Str.Parse.{digit_from_value}
use Rattle.httparse.specs.Grammar.{trim_ows, skip_ows, is_ows}
use Rattle.httparse.proofs.TrimLemmas.{AllPass-reverse}
use Rattle.h1_fields.specs.Names.{same_name}
use Rattle.h1_fields.specs.ListParts.{is_comma}
use Rattle.h1_fields.specs.ContentLength.{content_length}
use Rattle.h1_fields.specs.declared.content_length.ContentLength.TheVariants.{Number}
use Rattle.h1_fields.proofs.NumberLemmas.{number_all}
use Rattle.h1_head.specs.Views.{ResponseView}
use Rattle.h1_transcript.specs.Lawful.{IsCounted}

is_digit : ℕ → Bool
is_digit b = nat_lt (digit_value b) 10

digits_pass : (bytes : List ℕ) → AllDigits 10 bytes → list_all is_digit bytes ≡ true
unfolding is_digit
digits_pass [] h = refl
digits_pass (b ∷ bytes) h = rw (lt-ltb (digit_value b) 10 h.0, digits_pass bytes h.1) refl

-- a digit is no space, no tab and no comma
not_space : (b : ℕ) → is_digit b ≡ true → is_ows b ≡ false
unfolding is_digit
not_space b h =
    let range = digit_from_value b (ltb-true _ _ h) in
    let space : (b == 32) ≡ false = ne_eqb b 32 (λ e. absurd (omega arith)) in
    let tab : (b == 9) ≡ false = ne_eqb b 9 (λ e. absurd (omega arith)) in
    rw (space, tab) refl

not_comma : (b : ℕ) → digit_value b < 10 → is_comma b ≡ false
not_comma b h = let range = digit_from_value b h in ne_eqb b 44 (λ e. absurd (omega arith))

no_comma : (bytes : List ℕ) → AllDigits 10 bytes → All (λ b. is_comma b ≡ false) bytes
no_comma bytes h = All-from_recursion (λ b. is_comma b ≡ false) bytes (each bytes h)
  where
    each : (bytes : List ℕ) → AllDigits 10 bytes → AllByRecursion (λ b. is_comma b ≡ false) bytes
    each [] h = tt
    each (b ∷ bytes) h = (not_comma b h.0, each bytes h.1)

-- no space before digits
skip_none : (bytes : List ℕ) → list_all is_digit bytes ≡ true → skip_ows bytes ≡ bytes
skip_none [] h = refl
skip_none (b ∷ bytes) h = by_test (is_digit b) refl
  where
    by_test : (t : Bool) → is_digit b ≡ t → skip_ows (b ∷ bytes) ≡ b ∷ bytes
    by_test true is = rw (not_space b is) refl
    by_test false is = absurd (false≢true (rw is at h))

trim_none : (bytes : List ℕ) → list_all is_digit bytes ≡ true → trim_ows bytes ≡ bytes
unfolding trim_ows
trim_none bytes h =
    let behind =
    list_all-from_AllPass is_digit (reverse bytes)
    (AllPass-reverse is_digit bytes (AllPass-from_list_all is_digit bytes h)) in
    rw (skip_none bytes h, skip_none (reverse bytes) behind, reverse-reverse bytes) refl

-- the name in lower case is the name
length_name : same_name (codes "Content-Length") (codes "content-length") ≡ true
unfolding same_name
length_name = refl

coding_name : same_name (codes "Transfer-Encoding") (codes "content-length") ≡ false
unfolding same_name
coding_name = refl

-- one line with a number states this number
pub length_line : (n : ℕ) → n < 2 ^ 64
    → content_length ((codes "content-length", decimal n) ∷ []) ≡ Number n
length_line n small =
    let is = decimal_is_IsNumeral n small in
    let piece = slice_split_none is_comma (decimal n) (no_comma (decimal n) is.0.1) in
    let trim = trim_none (decimal n) (digits_pass (decimal n) is.0.1) in
    rw (length_name, piece, trim, number_all n (decimal n) (is.0, is.1, small)) refl

pub counted : (header : ResponseView) (n : ℕ)
    → header.fields ≡ (codes "content-length", decimal n) ∷ [] → n < 2 ^ 64 → IsCounted header
counted header n are small = record {
  value = decimal n;
  number = n;
  one = rw (are, length_name) refl;
  reads = rw are (length_line n small);
  alone = rw (are, coding_name) refl;
}
