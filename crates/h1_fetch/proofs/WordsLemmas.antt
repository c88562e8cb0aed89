-- The words of the command line.
use Rattle.std.proofs.Common.{◌≡◌, ℕ, ◌≤◌, List, [], ◌∷◌, length, map, None, refl, arith}
use Rattle.h1_fetch.specs.Words.{job_in}

-- six words are no job, and neither are more
pub many_words : {W : Type 0} (bytes_of : W → List ℕ) (words : List W) → 6 ≤ length words
    → None ≡ job_in (map bytes_of words)
many_words bytes_of [] many = absurd (omega (arith, many))
many_words bytes_of (a ∷ []) many = absurd (omega (arith, many))
many_words bytes_of (a ∷ b ∷ []) many = absurd (omega (arith, many))
many_words bytes_of (a ∷ b ∷ c ∷ []) many = absurd (omega (arith, many))
many_words bytes_of (a ∷ b ∷ c ∷ d ∷ []) many = absurd (omega (arith, many))
many_words bytes_of (a ∷ b ∷ c ∷ d ∷ e ∷ []) many = absurd (omega (arith, many))
many_words bytes_of (a ∷ b ∷ c ∷ d ∷ e ∷ f ∷ more) many = refl

-- two words are no job
pub two_words : {W : Type 0} (bytes_of : W → List ℕ) (words : List W) → 2 ≤ length words
    → length words ≤ 2 → None ≡ job_in (map bytes_of words)
two_words bytes_of [] many few = absurd (omega (arith, many))
two_words bytes_of (a ∷ []) many few = absurd (omega (arith, many))
two_words bytes_of (a ∷ b ∷ []) many few = refl
two_words bytes_of (a ∷ b ∷ c ∷ more) many few = absurd (omega (arith, few))

-- three words are no job
pub three_words : {W : Type 0} (bytes_of : W → List ℕ) (words : List W) → 3 ≤ length words
    → length words ≤ 3 → None ≡ job_in (map bytes_of words)
three_words bytes_of [] many few = absurd (omega (arith, many))
three_words bytes_of (a ∷ []) many few = absurd (omega (arith, many))
three_words bytes_of (a ∷ b ∷ []) many few = absurd (omega (arith, many))
three_words bytes_of (a ∷ b ∷ c ∷ []) many few = refl
three_words bytes_of (a ∷ b ∷ c ∷ d ∷ more) many few = absurd (omega (arith, few))
