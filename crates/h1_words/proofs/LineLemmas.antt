-- The lines of a script, taken off its front one by one.
use Rattle.std.proofs.Common.{◌≡◌, ℕ, ◌+◌, ◌<◌, Bool, true, false, cond, not, List, [], ◌∷◌, length, take, drop, Option, Some, None, refl, arith, ltb, suc, subst}
use Rattle.std.specs.List.{slice_split, position, position_or_len, onto_first}
use Rattle.std.proofs.lemmas.List.Splits.{slice_split_first}
use Rattle.std.proofs.lemmas.Bool.Decides.{nat_tests}
use Rattle.h1_words.specs.Script.{is_line_feed, lines_of, stopped_at, reading_behind}

-- one element before a list in which none passes the test
one_part_more : (b : Bool) (k n : ℕ) (x : ℕ) (xs : List ℕ) (parts : List (List ℕ)) →
    ltb (cond (not b) (1 + k) 0) (suc n) ≡ false → (ltb k n ≡ false → parts ≡ xs ∷ []) →
    cond b ([] ∷ parts) (onto_first x parts) ≡ (x ∷ xs) ∷ []
one_part_more true k n x xs parts h more = absurd (grind (arith, nat_tests))
one_part_more false k n x xs parts h more = let rest : parts ≡ xs ∷ [] =
    more (grind (arith, nat_tests)) in rw rest refl

-- where no element passes the test there is one part
one_part : (p : ℕ → Bool) (xs : List ℕ) → ltb (position_or_len p xs) (length xs) ≡ false →
    slice_split p xs ≡ xs ∷ []
one_part p [] h = refl
one_part p (x ∷ xs) h = one_part_more (p x) (position_or_len p xs) (length xs) x xs
    (slice_split p xs) h (one_part p xs)

-- what a test that chooses a place says
chosen : (b : Bool) (k n i : ℕ) → ltb k n ≡ b → cond b (Some k) None ≡ Some i → (k ≡ i) × (k < n)
chosen true k n i test h = (cc, grind (arith, nat_tests))
chosen false k n i test h = cc

left_out : (b : Bool) (k n : ℕ) → ltb k n ≡ b → ◌≡◌ {A = Option ℕ} (cond b (Some k) None) None →
    ltb k n ≡ false
left_out true k n test h = cc
left_out false k n test h = test

-- without LF there is one line
pub lines_without_feed : (bytes : List ℕ) → position is_line_feed bytes ≡ None →
    lines_of bytes ≡ bytes ∷ []
lines_without_feed bytes h = one_part is_line_feed bytes
    (left_out _ (position_or_len is_line_feed bytes) (length bytes) refl h)

-- the first line stands before the first LF
pub lines_with_feed : (bytes : List ℕ) (i : ℕ) → position is_line_feed bytes ≡ Some i →
    lines_of bytes ≡ take i bytes ∷ lines_of (drop (i + 1) bytes)
lines_with_feed bytes i h =
    let found = chosen _ (position_or_len is_line_feed bytes) (length bytes) i refl h in
    let P : ℕ → Type 0 = λ k. lines_of bytes ≡ take k bytes ∷ lines_of (drop (k + 1) bytes) in
    subst P found.0 (slice_split_first is_line_feed bytes 0 found.1)

-- after a fault nothing is read
pub stays_stopped : (number : ℕ) (lines : List (List ℕ)) →
    reading_behind (stopped_at number) lines ≡ stopped_at number
stays_stopped number [] = refl
stays_stopped number (line ∷ lines) = stays_stopped number lines
