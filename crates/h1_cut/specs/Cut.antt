-- Where a head ends, byte by byte (RFC 9112, section 2.2).
use Rattle.std.specs.Prelude.{ℕ, ◌+◌, Bool, true, false, Option, Some, None, List, [], ◌∷◌, ◌==◌, if◌then◌else◌}
use Rattle.h1_cut.specs.declared.line.LineSoFar.{LineSoFar}
use Rattle.h1_cut.specs.declared.line.LineSoFar.TheVariants.{Nothing, Cr, Text}

-- the line with one byte more, which isn't LF
abbrev pub line_with : LineSoFar → ℕ → LineSoFar
line_with Nothing b = if b == 13 then Cr else Text
line_with Cr b = Text
line_with Text b = Text

-- a line is empty if nothing or one CR stands before its LF
abbrev pub is_empty_line : LineSoFar → Bool
is_empty_line Nothing = true
is_empty_line Cr = true
is_empty_line Text = false

-- the cut, counted from `at`, where `begun` says whether a nonempty line came before, and `line` is
-- what is there of the line that the bytes go on with
abbrev pub cut_from : ℕ → Bool → LineSoFar → List ℕ → Option ℕ
cut_from at begun line [] = None
cut_from at begun line (b ∷ bytes) =
    if b == 10
    then (if is_empty_line line
    then (if begun then Some (at + 1) else cut_from (at + 1) false Nothing bytes)
    else cut_from (at + 1) true Nothing bytes)
    else cut_from (at + 1) begun (line_with line b) bytes

-- the number of bytes through the first empty line after a nonempty one
abbrev pub cut : List ℕ → Option ℕ
cut bytes = cut_from 0 false Nothing bytes
