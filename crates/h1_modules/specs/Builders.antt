-- The order of modules: the higher comes first, and equal orders stand as they were added.
use Rattle.std.specs.Prelude.{ℕ, ℤ, ◌==◌, ◌≤ℤ◌, Bool, List, [], ◌∷◌, int_lt, if◌then◌else◌, ⊤}
use Rattle.std.specs.List.{list_any, AllByRecursion}
use Rattle.std.specs.Ordering.{int_eq}

-- some builder has the key
abbrev pub has_key : {B : Type 0} → (B → ℕ) → ℕ → List B → Bool
has_key key_of key builders = list_any (λ b. key_of b == key) builders

-- before the first of a lower order, and so after all of its own
abbrev pub placed : {B : Type 0} → (B → ℤ) → B → List B → List B
placed order added [] = added ∷ []
placed order added (b ∷ builders) =
    if int_lt (order b) (order added) then added ∷ b ∷ builders
    else b ∷ placed order added builders

-- no builder stands before one of a higher order
abbrev pub Descends : {B : Type 0} → (B → ℤ) → List B → Type 0
Descends order [] = ⊤
Descends order (b ∷ builders) =
    AllByRecursion (λ later. order later ≤ℤ order b) builders × Descends order builders

-- the order is this one
abbrev pub is_order : ℤ → ℤ → Bool
is_order a b = int_eq a b
