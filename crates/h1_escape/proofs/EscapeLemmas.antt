-- The escape is what the crate `percent_encoding` writes for the set of illegal bytes.
use Rattle.std.proofs.Common.{◌≡◌, ◌≢◌, ℕ, ◌+◌, ◌*◌, ◌/◌, ◌%◌, ◌<◌, Bool, true, false, ◌||◌, List, [], ◌∷◌, ◌++◌, All, length, take, drop, Some, None, nat_lt, cond, count_by, refl, arith, length-append}
use Rattle.std.proofs.lemmas.Bool.{agree_below_at}
use Rattle.std.proofs.lemmas.Bool.Decides.{nat_tests}
use Rattle.std.proofs.lemmas.List.Elements.{All-head, All-tail}
use Rattle.std.proofs.lemmas.List.Sums.{sum_by-cons}
use Rattle.percent_encoding.specs.AsciiSet.{should_percent_encode}
use Rattle.percent_encoding.specs.Percent.{percent_encode, percent_encode_byte, encode_byte}
use Rattle.percent_encoding.proofs.PercentLemmas.{IsByte}
use Rattle.h1_escape.specs.declared.escape.TheConstants.{ILLEGAL}
use Rattle.h1_escape.specs.Escape.{is_illegal, escaped_byte, escaped, has_illegal, esc}
use Rattle.h1_escape.specs.Target.{target_start, target_len}

-- the bytes that the set has the crate escape are the illegal ones, each looked at
pub illegal_from_set : (b : ℕ) → b < 256 → should_percent_encode ILLEGAL b ≡ is_illegal b
unfolding should_percent_encode
illegal_from_set b small =
    agree_below_at (should_percent_encode ILLEGAL) is_illegal 256 b refl small

-- the crate's escape of a byte
pub escaped_byte_from_set : (b : ℕ) → b < 256 → encode_byte ILLEGAL b ≡ escaped_byte b
unfolding percent_encode_byte
escaped_byte_from_set b small =
    let high : b / 16 % 16 ≡ b / 16 = omega arith in
    rw (illegal_from_set b small, high) refl

-- the crate's escape of bytes
pub escaped_from_set : (bytes : List ℕ) → All IsByte bytes
    → percent_encode ILLEGAL bytes ≡ escaped bytes
unfolding percent_encode
escaped_from_set [] small = refl
escaped_from_set (b ∷ bytes) small =
    let first = escaped_byte_from_set b (All-head IsByte b bytes small) in
    let rest = escaped_from_set bytes (All-tail IsByte b bytes small) in
    rw (first, rest) refl

one_more : (first rest : Bool) (count : ℕ) → rest ≡ nat_lt 0 count
    → (first || rest) ≡ nat_lt 0 (cond first 1 0 + count)
one_more true rest count same = grind (arith, nat_tests)
one_more false rest count same = grind (arith, nat_tests)

-- some byte is illegal where their number isn't 0
has_illegal_from_count : (bytes : List ℕ)
    → has_illegal bytes ≡ nat_lt 0 (count_by is_illegal bytes)
has_illegal_from_count [] = refl
has_illegal_from_count (b ∷ bytes) =
    rw (sum_by-cons (λ x. cond (is_illegal x) 1 0) b bytes)
    (one_more (is_illegal b) _ _ (has_illegal_from_count bytes))

length-choice : (t : Bool) (x y z b : ℕ)
    → length (cond t (x ∷ y ∷ z ∷ []) (b ∷ [])) ≡ 1 + 2 * cond t 1 0
length-choice true x y z b = refl
length-choice false x y z b = refl

-- an escape has two bytes more than what it stands for
pub length-escaped : (bytes : List ℕ)
    → length (escaped bytes) ≡ length bytes + 2 * count_by is_illegal bytes
length-escaped [] = refl
length-escaped (b ∷ bytes) =
    let first : length (escaped_byte b) ≡ 1 + 2 * cond (is_illegal b) 1 0 =
    length-choice (is_illegal b) _ _ _ b in
    let rest = length-escaped bytes in
    rw (sum_by-cons (λ x. cond (is_illegal x) 1 0) b bytes, length-append) (omega arith)

-- a head whose first line has a target with no illegal byte has no escape
pub esc_none : (head : List ℕ) (start len : ℕ) → target_start head ≡ Some start
    → target_len (drop start head) ≡ Some len
    → count_by is_illegal (take len (drop start head)) ≡ 0 → esc head ≡ None
esc_none head start len starts ends none =
    let target = take len (drop start head) in
    let clean : has_illegal target ≡ false = rw (has_illegal_from_count target, none) refl in
    rw (starts, ends, clean) refl

-- one whose target has an illegal byte has an escape, in which its target alone is escaped
pub esc_some : (head : List ℕ) (start len : ℕ) → target_start head ≡ Some start
    → target_len (drop start head) ≡ Some len
    → count_by is_illegal (take len (drop start head)) ≢ 0
    → esc head
    ≡ Some (take start head ++ escaped (take len (drop start head)) ++ drop (start + len) head)
esc_some head start len starts ends some =
    let target = take len (drop start head) in
    let dirty : has_illegal target ≡ true =
    rw (has_illegal_from_count target) (grind (arith, nat_tests)) in
    rw (starts, ends, dirty) refl
