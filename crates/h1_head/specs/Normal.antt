-- The bytes that the head of a response is read as: a field line that is continued on the next is
-- one line (RFC 9112, section 5.2), and no white space stands before its colon (section 5.1).
use Rattle.std.specs.Prelude.{ℕ, Bool, false, List, [], ◌∷◌, ◌++◌, ◌==◌, map, reverse, if◌then◌else◌}
use Rattle.std.specs.List.{join_with_byte, slice_split}
use Rattle.httparse.specs.Grammar.{is_ows, skip_ows}
use Rattle.h1_cut.specs.Lines.{is_empty}

-- what stands before, between and behind the places of a byte
abbrev pub parts_at : ℕ → List ℕ → List (List ℕ)
parts_at byte bytes = slice_split (λ b. b == byte) bytes

-- obs-fold = OWS CRLF RWS: a line that begins with a space or a tab goes on with the one before it
abbrev pub is_continuation : List ℕ → Bool
is_continuation [] = false
is_continuation (b ∷ line) = is_ows b

-- a line, which stands before its LF, without the CR of its end
abbrev pub without_cr : List ℕ → List ℕ
without_cr [] = []
without_cr (b ∷ []) = if b == 13 then [] else b ∷ []
without_cr (b ∷ c ∷ line) = b ∷ without_cr (c ∷ line)

-- a line and the one that goes on with it, with one space between them
abbrev pub joined : List ℕ → List ℕ → List ℕ
joined line next = without_cr line ++ 32 ∷ skip_ows next

-- the lines from this one on, where each that is continued is one
abbrev pub unfolded : List ℕ → List (List ℕ) → List (List ℕ)
unfolded line [] = line ∷ []
unfolded line (next ∷ lines) =
    if is_continuation next then unfolded (joined line next) lines else line ∷ unfolded next lines

-- the name of a field, without the white space behind it
abbrev pub without_end_ows : List ℕ → List ℕ
without_end_ows name = reverse (skip_ows (reverse name))

-- a field line by its parts between colons: the first ends without white space
abbrev pub tightened : List (List ℕ) → List (List ℕ)
tightened [] = []
tightened (line ∷ []) = line ∷ []
tightened (name ∷ value ∷ values) = without_end_ows name ∷ value ∷ values

-- a field line without white space before its first colon
abbrev pub tight : List ℕ → List ℕ
tight line = join_with_byte 58 (tightened (parts_at 58 line))

-- the field lines, of which the first goes on with none
abbrev pub normal_fields : List (List ℕ) → List (List ℕ)
normal_fields [] = []
normal_fields (line ∷ lines) = map tight (unfolded line lines)

-- the lines of a head: empty ones, the status line, and the field lines
abbrev pub normal_lines : List (List ℕ) → List (List ℕ)
normal_lines [] = []
normal_lines (line ∷ lines) =
    if is_empty line then line ∷ normal_lines lines else line ∷ normal_fields lines

-- the head with its field lines so
abbrev pub normal : List ℕ → List ℕ
normal head = join_with_byte 10 (normal_lines (parts_at 10 head))
