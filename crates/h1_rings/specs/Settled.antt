-- What is left in a ring whose ends have met.
use Rattle.std.specs.Prelude.{◌≡◌, List, [], ◌∷◌, ◌++◌, Option, Some, None}
use mathlib.Core.List.{IsPrefix}

pub record MetView (T : Type 0) : Type 0 where
  pub put : List T
  pub taken : List T

module _ {T : Type 0} where
  -- None exactly where all that was put was taken; else the next item that was put
  abbrev pub NextIs : List T → List T → Option T → List T → Type 0
  NextIs put before None after = (put ≡ before) × (after ≡ before)
  NextIs put before (Some x) after = (after ≡ before ++ x ∷ []) × IsPrefix after put

  -- the slots hold these items, in order and in front
  abbrev pub Holds : List (Option T) → List T → Type 0
  Holds [] left = left ≡ []
  Holds (None ∷ slots) left = (left ≡ []) × Holds slots []
  Holds (Some x ∷ slots) left = (rest : List T) × (left ≡ x ∷ rest) × Holds slots rest
