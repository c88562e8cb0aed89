-- A part of Content-Length, as a number.
use Rattle.std.proofs.Common.{◌≡◌, ℕ, ◌+◌, ◌*◌, ◌^◌, ◌<◌, ◌≤◌, nat_lt, Bool, true, false, Some, None, List, [], ◌∷◌, refl, ap, arith}
use Rattle.std.specs.Char.{digit_value}
use Rattle.std.specs.Str.Parse.{AllDigits, digits_value_after}
use Rattle.std.proofs.lemmas.Bool.{ltb-true, lt-ltb}
use Rattle.h1_fields.specs.ContentLength.{number_from, number, IsNumber}

-- the value never gets smaller
value_after_ge : (m : ℕ) (bytes : List ℕ) → m ≤ digits_value_after 10 m bytes
value_after_ge m [] = omega arith
value_after_ge m (b ∷ bytes) =
    let later = value_after_ge (m * 10 + digit_value b) bytes in
    omega arith

-- what the number that was read says of the digits
from_only : (m n : ℕ) (bytes : List ℕ) → m < 2 ^ 64 → number_from m bytes ≡ Some n
    → AllDigits 10 bytes × (digits_value_after 10 m bytes ≡ n) × (n < 2 ^ 64)
from_only m n [] small read =
    let same : m ≡ n = cc in
    (tt, same, omega arith)
from_only m n (b ∷ bytes) small read =
    by_test (from_only (m * 10 + digit_value b) n bytes) (nat_lt (digit_value b) 10)
    (nat_lt (m * 10 + digit_value b) (2 ^ 64)) refl refl
  where
    by_test : (m * 10 + digit_value b < 2 ^ 64 → number_from (m * 10 + digit_value b) bytes ≡ Some n
        → AllDigits 10 bytes × (digits_value_after 10 (m * 10 + digit_value b) bytes ≡ n)
        × (n < 2 ^ 64))
        → (digit fits : Bool) → nat_lt (digit_value b) 10 ≡ digit
        → nat_lt (m * 10 + digit_value b) (2 ^ 64) ≡ fits
        → AllDigits 10 (b ∷ bytes) × (digits_value_after 10 m (b ∷ bytes) ≡ n) × (n < 2 ^ 64)
    by_test only true true is_digit does_fit =
        let later : number_from (m * 10 + digit_value b) bytes ≡ Some n =
        rw (is_digit, does_fit) at read in
        let rest = only (ltb-true _ _ does_fit) later in
        ((ltb-true _ _ is_digit, rest.0), rest.1, rest.2)
    by_test only true false is_digit does_fit =
        let never : None ≡ Some n = rw (is_digit, does_fit) at read in
        absurd (cc)
    by_test only false fits is_digit does_fit =
        let never : None ≡ Some n = rw is_digit at read in
        absurd (cc)

-- digits that write a small number are read as it
from_all : (m n : ℕ) (bytes : List ℕ) → AllDigits 10 bytes → digits_value_after 10 m bytes ≡ n
    → n < 2 ^ 64
    → number_from m bytes ≡ Some n
from_all m n [] digits value small = ap Some value
from_all m n (b ∷ bytes) digits value small =
    let more = m * 10 + digit_value b in
    let later = value_after_ge more bytes in
    let is_digit = lt-ltb (digit_value b) 10 digits.0 in
    let does_fit = lt-ltb more (2 ^ 64) (omega arith) in
    rw (is_digit, does_fit) (from_all more n bytes digits.1 value small)

pub number_only : (n : ℕ) (part : List ℕ) → number part ≡ Some n → IsNumber n part
number_only n [] read = absurd (let never : None ≡ Some n = read in cc)
number_only n (b ∷ bytes) read =
    let all = from_only 0 n (b ∷ bytes) (omega arith) read in
    ((omega arith, all.0), all.1, all.2)

pub number_all : (n : ℕ) (part : List ℕ) → IsNumber n part → number part ≡ Some n
number_all n [] is = absurd (omega (arith, is.0.0))
number_all n (b ∷ bytes) is = from_all 0 n (b ∷ bytes) is.0.1 is.1 is.2
