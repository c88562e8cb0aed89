-- What is left of some bytes behind the first place of a byte.
use Rattle.std.specs.Prelude.{ℕ, List, [], Option, None, Some}
use Rattle.h1_head.specs.Normal.{parts_at}

-- the parts of the bytes behind that place, and none where there is no such place
abbrev pub parts_behind : ℕ → Option (List ℕ) → List (List ℕ)
parts_behind byte None = []
parts_behind byte (Some bytes) = parts_at byte bytes
