-- The numbers of a script.
use Rattle.std.proofs.Common.{◌≡◌, ℕ, ◌+◌, ◌*◌, ◌≤◌, Bool, true, false, cond, ◌&&◌, List, [], ◌∷◌, length, Some, None, refl, sym, ap, subst, arith, ltb, leb}
use Rattle.std.proofs.lemmas.Bool.{ltb-true, lt-ltb, leb-true, le-leb, and_parts, and_from}
use Rattle.std.specs.Char.{digit_value}
use Rattle.std.specs.Str.Parse.{AllDigits, digits_value_after}
use Rattle.h1_words.specs.Number.{number_from, number_up_to, IsNumber}
use Rattle.h1_words.specs.declared.number.TheConstants.{MAX_DIGITS}

-- after those of n these digits write the number
record Writes (most n : ℕ) (digits : List ℕ) (number : ℕ) : Type 0 where
  each : AllDigits 10 digits
  value : digits_value_after 10 n digits ≡ number
  within : number ≤ most

read_more : (most : ℕ) (t : Bool) (n b : ℕ) (digits : List ℕ) (number : ℕ) →
    (ltb (digit_value b) 10 && leb (n * 10 + digit_value b) most) ≡ t →
    number_from most (cond t (Some (n * 10 + digit_value b)) None) digits ≡ Some number →
    (number_from most (Some (n * 10 + digit_value b)) digits ≡ Some number →
    n * 10 + digit_value b ≤ most → Writes most (n * 10 + digit_value b) digits number) →
    Writes most n (b ∷ digits) number
read_more most true n b digits number test h more =
    let parts = and_parts (ltb (digit_value b) 10) (leb (n * 10 + digit_value b) most) test in
    let rest = more h (leb-true (n * 10 + digit_value b) most parts.1) in
    record {
      each = (ltb-true (digit_value b) 10 parts.0, rest.each);
      value = rest.value;
      within =
          rest.within;
    }
read_more most false n b digits number test h more = cc

read : (most : ℕ) (n : ℕ) (digits : List ℕ) (number : ℕ) →
    number_from most (Some n) digits ≡ Some number → n ≤ most → Writes most n digits number
read most n [] number h small = let e : n ≡ number = cc in
    record { each = tt; value = e; within = omega arith }
read most n (b ∷ digits) number h small =
    read_more most _ n b digits number refl h (read most (n * 10 + digit_value b) digits number)

grows : (n : ℕ) (digits : List ℕ) → n ≤ digits_value_after 10 n digits
grows n [] = omega arith
grows n (b ∷ digits) = omega (arith, grows (n * 10 + digit_value b) digits)

written : (most : ℕ) (n : ℕ) (digits : List ℕ) (number : ℕ) → Writes most n digits number →
    number_from most (Some n) digits ≡ Some number
written most n [] number w = ap (λ m. Some m) w.value
written most n (b ∷ digits) number w =
    let more = n * 10 + digit_value b in
    let fits : more ≤ most = omega (arith, grows more digits, w.value, w.within) in
    let test : (ltb (digit_value b) 10 && leb more most) ≡ true =
    and_from _ _ (lt-ltb _ _ w.each.0) (le-leb _ _ fits) in
    let P : Bool → Type 0 = λ t. number_from most (cond t (Some more) None) digits ≡ Some number in
    subst P (sym test) (written most more digits number
    (record { each = w.each.1; value = w.value; within = w.within }))

only_short : (most : ℕ) (t : Bool) (b : ℕ) (digits : List ℕ) (number : ℕ) →
    (ltb 0 (length (b ∷ digits)) && leb (length (b ∷ digits)) MAX_DIGITS) ≡ t →
    cond t (number_from most (Some 0) (b ∷ digits)) None ≡ Some number →
    IsNumber most (b ∷ digits) number
only_short most true b digits number test h =
    let parts = and_parts (ltb 0 (length (b ∷ digits))) (leb (length (b ∷ digits)) MAX_DIGITS)
    test in
    let w = read most 0 (b ∷ digits) number h (omega arith) in
    record {
      numeral = (omega arith, w.each);
      short =
          leb-true (length (b ∷ digits)) MAX_DIGITS parts.1;
      value = w.value;
      within = w.within;
    }
only_short most false b digits number test h = cc

-- a number that is read is the one that the digits write
pub number_only : (most : ℕ) (digits : List ℕ) (number : ℕ) →
    number_up_to most digits ≡ Some number → IsNumber most digits number
number_only most [] number h = cc
number_only most (b ∷ digits) number h = only_short most _ b digits number refl h

-- digits that write a number are read as it
pub number_all : (most : ℕ) (digits : List ℕ) (number : ℕ) → IsNumber most digits number →
    number_up_to most digits ≡ Some number
number_all most [] number w = absurd (omega (arith, w.numeral.0))
number_all most (b ∷ digits) number w =
    let P : Bool → Type 0 = λ t. cond t (number_from most (Some 0) (b ∷ digits)) None ≡ Some
    number in
    let test : (ltb 0 (length (b ∷ digits)) && leb (length (b ∷ digits)) MAX_DIGITS) ≡ true =
    and_from _ _ (lt-ltb _ _ w.numeral.0) (le-leb _ _ w.short) in
    subst P (sym test) (written most 0 (b ∷ digits) number
    (record { each = w.numeral.1; value = w.value; within = w.within }))
