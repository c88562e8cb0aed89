-- What is known of the values of a name without a search.
use Rattle.std.specs.Prelude.{ℕ, ◌≡◌, List, [], ◌∷◌, ⊤}
use Rattle.h1_fields.specs.declared.lone.Lone.{Lone}
use Rattle.h1_fields.specs.declared.lone.Lone.TheVariants.{Nothing, One, Unknown}

abbrev pub IsLone : List (List ℕ) → Lone → Type 0
IsLone values Nothing = values ≡ []
IsLone values (One value) = values ≡ value.now ∷ []
IsLone values Unknown = ⊤
