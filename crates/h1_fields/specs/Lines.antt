-- Field lines (RFC 9110, section 5; RFC 9112, section 5).
use Rattle.std.specs.Prelude.{ℕ, Bool, List, [], ◌∷◌, ◌++◌, Option, None, Some, if◌then◌else◌, codes}
use Rattle.std.specs.List.{list_any, flat_map}
use Rattle.h1_fields.specs.Names.{same_name}

-- a name and a value
abbrev pub Line : Type 0
Line = List ℕ × List ℕ

-- the line has this name
abbrev pub is_named : List ℕ → Line → Bool
is_named name line = same_name name line.0

-- some line has this name
abbrev pub has_line : List ℕ → List Line → Bool
has_line name lines = list_any (is_named name) lines

-- the values of all lines of a name, in order
abbrev pub values_of : List ℕ → List Line → List (List ℕ)
values_of name [] = []
values_of name (line ∷ lines) =
    if is_named name line then line.1 ∷ values_of name lines else values_of name lines

-- the first element, if there is one
abbrev pub first_of : List (List ℕ) → Option (List ℕ)
first_of [] = None
first_of (value ∷ values) = Some value

-- the value of the first line of a name
abbrev pub first_value : List ℕ → List Line → Option (List ℕ)
first_value name lines = first_of (values_of name lines)

-- the lines but those of a name
abbrev pub without : List ℕ → List Line → List Line
without name [] = []
without name (line ∷ lines) =
    if is_named name line then without name lines else line ∷ without name lines

-- The first line of the name becomes the new line, and later ones go. Where there is none, the new
-- line stands at the end.
abbrev pub with_line : List ℕ → List ℕ → List Line → List Line
with_line name value [] = (name, value) ∷ []
with_line name value (line ∷ lines) =
    if is_named name line then (name, value) ∷ without name lines
    else line ∷ with_line name value lines

-- field-line CRLF, with one space after the colon
abbrev pub print_line : Line → List ℕ
print_line line = line.0 ++ codes ": " ++ line.1 ++ (13 ∷ 10 ∷ [])

abbrev pub print_lines : List Line → List ℕ
print_lines lines = flat_map print_line lines
