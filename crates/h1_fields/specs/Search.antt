-- What the place of the first line of a name tells of all lines.
use Rattle.std.specs.Prelude.{◌≡◌, ℕ, ◌<◌, ◌+◌, false, true, List, [], ◌∷◌, ◌++◌, None, option_map, take, drop, length, slice_get}
use Rattle.h1_fields.specs.Lines.{Line, has_line, first_value, with_line, without}

-- no line has the name
pub record HasNone (name : List ℕ) (lines : List Line) : Type 0 where
  pub absent : has_line name lines ≡ false
  pub no_value : first_value name lines ≡ None
  pub put : (value : List ℕ) → with_line name value lines ≡ lines ++ (name, value) ∷ []

-- the line at the place is the first of the name
pub record IsFirstAt (name : List ℕ) (lines : List Line) (place : ℕ) : Type 0 where
  pub within : place < length lines
  pub present : has_line name lines ≡ true
  pub value : first_value name lines ≡ option_map (λ line. line.1) (slice_get lines place)
  pub put : (value : List ℕ)
      → with_line name value lines
      ≡ take place lines ++ (name, value) ∷ without name (drop (place + 1) lines)
