-- A head by its lines (RFC 9112, sections 2.1 and 2.2).
use Rattle.std.specs.Prelude.{ℕ, ◌+◌, Bool, true, false, ◌&&◌, Option, Some, None, List, [], ◌∷◌, ◌++◌, length, ◌==◌, if◌then◌else◌}

-- the whole lines of the bytes, each without its LF, where `line` is what stands before them on the
-- first line; what is after the last LF is no line
abbrev pub lines_behind : List ℕ → List ℕ → List (List ℕ)
lines_behind line [] = []
lines_behind line (b ∷ bytes) =
    if b == 10 then line ∷ lines_behind [] bytes else lines_behind (line ++ b ∷ []) bytes

-- a line is empty if nothing or one CR stands before its LF
abbrev pub is_empty : List ℕ → Bool
is_empty [] = true
is_empty (b ∷ []) = b == 13
is_empty (b ∷ c ∷ more) = false

-- the number of bytes through the first empty line after a nonempty one, where `at` bytes came
-- before and `begun` says whether a nonempty line is among them
abbrev pub end_of_head : ℕ → Bool → List (List ℕ) → Option ℕ
end_of_head at begun [] = None
end_of_head at begun (line ∷ lines) =
    if is_empty line && begun
    then Some (at + length line + 1)
    else end_of_head (at + length line + 1) (if is_empty line then begun else true) lines
