-- The bytes that are left of a row of pieces, and the digits of a size.
use Rattle.std.proofs.Common.{◌≡◌, ℕ, ◌+◌, ◌-◌, ◌/◌, ◌%◌, ◌<◌, ◌≤◌, ◌^◌, List, [], ◌∷◌, ◌++◌, length, take, drop, set, map, min, Some, ◌⊎◌, inl, inr, refl, sym, ap, ◌∙◌, append_assoc, arith, length-drop}
use Rattle.std.proofs.lemmas.List.{map-append, drop-set, take_all}
use Rattle.std.specs.Int.Digits.{digits_of}
use Rattle.std.proofs.lemmas.Int.Digits.{digits_of_step, length-digits_of_step, length-digits_of-le}
use Rattle.bytes.proofs.Chunks.{drop-append_min}
use Rattle.h1_body.specs.Writer.{taken_by}
use Rattle.h1_body.specs.declared.framing.Framing.{Framing}
use Rattle.h1_body.specs.declared.framing.Framing.TheVariants.{Chunked, UntilClose}
use Rattle.h1_body.specs.Written.{size_digits, upper_digit}

-- what is left of three pieces
pub drop_pieces : (a b c : List ℕ) (n i j k : ℕ) → i ≡ min n (length a) → j ≡ min (n - i) (length b)
    → k ≡ n - i - j
    → drop i a ++ drop j b ++ take (length c - k) (drop k c) ≡ drop n (a ++ b ++ c)
drop_pieces a b c n i j k first second third =
    rw (
      take_all (length c - k) (drop k c) (omega (arith, length-drop k c)),
      append_assoc a b c,
      append_assoc (drop i a) (drop j b) (drop k c),
      drop-append_min a (b ++ c) n,
      ← first,
      drop-append_min b c (n - i),
      ← second,
      ← third,
    ) refl

-- one digit less in front
pub digits_left : (n : ℕ) (rest : List ℕ) → 0 < n
    → size_digits (n / 16) ++ (upper_digit (n % 16) ∷ rest) ≡ size_digits n ++ rest
unfolding size_digits
digits_left n rest h =
    rw (
      digits_of_step 16 n (omega arith) h,
      map-append upper_digit (digits_of 16 (n / 16)) (n % 16 ∷ []),
      append_assoc (map upper_digit (digits_of 16 (n / 16))) (upper_digit (n % 16) ∷ []) rest,
    ) refl

pub digits_fewer : (n : ℕ) → 0 < n → length (digits_of 16 n) ≡ length (digits_of 16 (n / 16)) + 1
digits_fewer n h = length-digits_of_step 16 n (omega arith) h

pub digits_within : (n : ℕ) → n < 2 ^ 64 → length (digits_of 16 n) ≤ 16
digits_within n h = length-digits_of-le 16 16 n (omega arith) h

pub no_digits : size_digits 0 ≡ []
unfolding size_digits
no_digits = refl

-- a digit written before the line
pub digit_put : (bytes : List ℕ) (at left digit : ℕ) → 0 < left → 0 < at → at ≤ length bytes
    → digit ≡ upper_digit (left % 16)
    → size_digits (left / 16) ++ drop (at - 1)
    (set bytes (at - 1) digit) ≡ size_digits left ++ drop at bytes
digit_put bytes at left digit some room within e =
    let inside : at - 1 < length bytes = omega arith in
    let same : at - 1 + 1 ≡ at = omega arith in
    rw (drop-set bytes (at - 1) digit inside, same, e) (digits_left left (drop at bytes) some)

-- no digit is left
pub digits_put : (left : ℕ) (rest line : List ℕ) → left ≤ 0 → size_digits left ++ rest ≡ line
    → rest ≡ line
digits_put left rest line none e =
    let zero_left : 0 ≡ left = omega arith in
    ap (λ digits. digits ++ rest) (sym no_digits) ∙ ap (λ n. size_digits n ++ rest) zero_left ∙ e

-- a body of no stated length takes all payload
pub taken_whole : (framing : Framing) (written : ℕ) (payload : List ℕ)
    → (framing ≡ Chunked) ⊎ (framing ≡ UntilClose) → length payload < 2 ^ 64
    → take 18446744073709551615 payload ≡ taken_by (Some framing) written payload
taken_whole framing written payload which short =
    let all : take 18446744073709551615 payload ≡ payload =
    take_all 18446744073709551615 payload (omega arith) in
    elim which [ inl e ↦ rw e all | inr e ↦ rw e all ]
