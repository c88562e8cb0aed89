-- Parts of bytes.
use Rattle.std.specs.Prelude.{ℕ, Bool, List, [], drop, Option, None, Some}
use Rattle.std.specs.List.{position}

-- the bytes from this place on
abbrev pub bytes_from : List ℕ → Option ℕ → List ℕ
bytes_from bytes None = []
bytes_from bytes (Some n) = drop n bytes

-- the bytes from the first on that passes
abbrev pub from_first : (ℕ → Bool) → List ℕ → List ℕ
from_first passes bytes = bytes_from bytes (position passes bytes)
