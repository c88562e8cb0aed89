-- The lines that an owner of a block or of a head holds.
use Rattle.std.specs.Prelude.{ℕ, ◌≤◌, ◌≡◌, List, [], length, ⊤}
use Rattle.std.specs.Arc.{arc_value}
use Rattle.std.specs.Box.{box_value}
use Rattle.h1_fields.specs.declared.held.Held.{Held}
use Rattle.h1_fields.specs.declared.held.Held.TheVariants.{Nothing, One, Shared, Read, Own}
use Rattle.h1_fields.specs.declared.held.TheConstants.{MAX_SHARED_LINES}
use Rattle.h1_fields.specs.Lines.{Line}

abbrev pub lines_in : Held → List Line
lines_in Nothing = []
lines_in (One line) = line
lines_in (Shared owner) = arc_value owner
lines_in (Read owner) = arc_value owner
lines_in (Own block) = box_value block

-- a line may be gone only from few lines
abbrev pub AreFlags : ℕ → Held → Type 0
AreFlags gone Nothing = ⊤
AreFlags gone (One line) = gone ≡ 0
AreFlags gone (Shared owner) = length (arc_value owner) ≤ MAX_SHARED_LINES
AreFlags gone (Read owner) = length (arc_value owner) ≤ MAX_SHARED_LINES
AreFlags gone (Own block) = gone ≡ 0
