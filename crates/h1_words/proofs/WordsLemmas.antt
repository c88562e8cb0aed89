-- The words of the command line.
use Rattle.std.proofs.Common.{◌≡◌, ℕ, ◌≤◌, List, [], ◌∷◌, length, map, None, refl, arith}
use Rattle.h1_words.specs.Words.{task_of}

-- four words are no task, and neither are more
pub many_words : {W : Type 0} (bytes_of : W → List ℕ) (words : List W) → 4 ≤ length words →
    None ≡ task_of (map bytes_of words)
many_words bytes_of [] many = absurd (omega (arith, many))
many_words bytes_of (a ∷ []) many = absurd (omega (arith, many))
many_words bytes_of (a ∷ b ∷ []) many = absurd (omega (arith, many))
many_words bytes_of (a ∷ b ∷ c ∷ []) many = absurd (omega (arith, many))
many_words bytes_of (a ∷ b ∷ c ∷ d ∷ more) many = refl
