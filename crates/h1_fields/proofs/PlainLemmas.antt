-- Values that are one part.
use Rattle.std.proofs.Common.{◌≡◌, ℕ, ◌<◌, ◌==◌, Bool, true, false, All, Some, List, [], ◌∷◌, ◌++◌, map, reverse, codes, refl, sym, ap, ◌∙◌, subst, arith}
use Rattle.std.specs.Char.{digit_value}
use Rattle.std.specs.List.{list_any, slice_split}
use Rattle.std.specs.Str.Parse.{AllDigits}
use Rattle.std.proofs.lemmas.Bool.{ne_eqb}
use Rattle.std.proofs.lemmas.List.{reverse-append, reverse-reverse}
use Rattle.std.proofs.lemmas.List.Elements.{All-nil, All-cons, All-head, All-tail, All-push}
use Rattle.std.proofs.lemmas.List.Splits.{slice_split_none}
use Rattle.httparse.specs.Grammar.{is_ows, skip_ows, trim_ows}
use Rattle.h1_fields.specs.declared.content_length.ContentLength.TheVariants.{Absent, Number}
use Rattle.h1_fields.specs.Codings.{ends_chunked, without_empty}
use Rattle.h1_fields.specs.Names.{same_name}
use Rattle.h1_fields.specs.ContentLength.{agreed, number}
use Rattle.h1_fields.specs.ListParts.{is_comma, list_parts}
use Rattle.h1_fields.proofs.NumberLemmas.{number_only}

abbrev NoComma : ℕ → Type 0
NoComma b = is_comma b ≡ false

abbrev NoSpace : ℕ → Type 0
NoSpace b = is_ows b ≡ false

-- a digit is no byte that isn't a digit
no_other : (b other : ℕ) → digit_value b < 10 → (digit_value other < 10 → ⊥) → (b == other) ≡ false
no_other b other digit never =
    ne_eqb b other (λ same. never (subst (λ b. digit_value b < 10) same digit))

-- a digit is no comma, space or tab
digit_is_plain : (b : ℕ) → digit_value b < 10 → NoComma b × NoSpace b
digit_is_plain b digit =
    let no_space = no_other b 32 digit (λ small. omega (arith, small)) in
    let no_tab = no_other b 9 digit (λ small. omega (arith, small)) in
    (no_other b 44 digit (λ small. omega (arith, small)), rw (no_space, no_tab) refl)

digits_are_plain : (bytes : List ℕ) → AllDigits 10 bytes → All NoComma bytes × All NoSpace bytes
digits_are_plain [] digits = (All-nil NoComma, All-nil NoSpace)
digits_are_plain (b ∷ bytes) digits =
    let here = digit_is_plain b digits.0 in
    let rest = digits_are_plain bytes digits.1 in
    (All-cons NoComma b bytes here.0 rest.0, All-cons NoSpace b bytes here.1 rest.1)

-- no space or tab is skipped where there is none
skip_nothing : (bytes : List ℕ) → All NoSpace bytes → skip_ows bytes ≡ bytes
skip_nothing [] all = refl
skip_nothing (b ∷ bytes) all =
    let here : is_ows b ≡ false = All-head NoSpace b bytes all in
    rw here refl

no_space_back : (bytes : List ℕ) → All NoSpace bytes → All NoSpace (reverse bytes)
no_space_back [] all = all
no_space_back (b ∷ bytes) all =
    subst (All NoSpace) (sym (reverse-append (b ∷ []) bytes))
    (All-push NoSpace _ b (no_space_back bytes (All-tail NoSpace b bytes all))
    (All-head NoSpace b bytes all))

trim_nothing : (bytes : List ℕ) → All NoSpace bytes → trim_ows bytes ≡ bytes
unfolding trim_ows
trim_nothing bytes all =
    ap (λ left. reverse (skip_ows (reverse left))) (skip_nothing bytes all)
    ∙ ap reverse (skip_nothing (reverse bytes) (no_space_back bytes all))
    ∙ reverse-reverse bytes

-- a value that is a number is its one part
pub number_alone : (value : List ℕ) (n : ℕ) → number value ≡ Some n
    → agreed Absent (list_parts (value ∷ [])) ≡ Number n
number_alone value n is =
    let plain = digits_are_plain value (number_only n value is).0.1 in
    rw (slice_split_none is_comma value plain.0, trim_nothing value plain.1, is) refl

-- the one coding is `chunked`
pub chunked_alone : (value : List ℕ) → value ≡ codes "chunked"
    → ends_chunked false (without_empty (list_parts (value ∷ []))) ≡ true
unfolding same_name trim_ows
chunked_alone value is = rw is refl

-- an option alone is the one that is looked for, or isn't
pub keep_alive_alone : (value : List ℕ) → value ≡ codes "keep-alive"
    → list_any (same_name (codes "close")) (list_parts (value ∷ [])) ≡ false
unfolding same_name trim_ows
keep_alive_alone value is = rw is refl

pub close_alone : (value : List ℕ) → value ≡ codes "close"
    → list_any (same_name (codes "close")) (list_parts (value ∷ [])) ≡ true
unfolding same_name trim_ows
close_alone value is = rw is refl
