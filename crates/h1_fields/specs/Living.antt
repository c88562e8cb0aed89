-- Lines of a shared block of which some are gone from one of its owners. A number tells which: its
-- lowest bit speaks of the first line, and is set where the line is gone.
use Rattle.std.specs.Prelude.{ℕ, ◌+◌, ◌*◌, ◌/◌, ◌%◌, ◌==◌, Bool, List, [], ◌∷◌, ◌&&◌, if◌then◌else◌}
use Rattle.h1_fields.specs.Lines.{Line, is_named}

-- the lines that aren't gone
abbrev pub living : ℕ → List Line → List Line
living gone [] = []
living gone (line ∷ lines) =
    if gone % 2 == 0 then line ∷ living (gone / 2) lines else living (gone / 2) lines

-- the first line isn't gone, and has the name
abbrev pub is_shown : List ℕ → ℕ → Line → Bool
is_shown name gone line = gone % 2 == 0 && is_named name line

-- what tells that the lines of a name are gone too
abbrev pub hidden : List ℕ → ℕ → List Line → ℕ
hidden name gone [] = gone
hidden name gone (line ∷ lines) =
    2 * hidden name (gone / 2) lines + (if is_named name line then 1 else gone % 2)
