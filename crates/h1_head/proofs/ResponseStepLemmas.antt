-- What each step of the normalising leaves to be done.
use Rattle.std.proofs.Common.{◌≡◌, ℕ, ◌<◌, ◌==◌, Bool, true, false, List, [], ◌∷◌, ◌++◌, length, map, refl, sym, ◌∙◌, ap, arith, append_assoc}
use Rattle.std.specs.List.{join_with_byte}
use Rattle.std.proofs.lemmas.List.{length-map}
use Rattle.std.proofs.lemmas.List.Splits.{join_with_byte-slice_split, length-slice_split}
use Rattle.h1_cut.specs.Lines.{is_empty}
use Rattle.h1_head.specs.Normal.{is_continuation, joined, normal, normal_fields, normal_lines, parts_at, tight, tightened, unfolded, without_end_ows}

parts_some : (byte : ℕ) (bytes : List ℕ) → 0 < length (parts_at byte bytes)
parts_some byte bytes = omega (arith, length-slice_split (λ b. b == byte) bytes)

join_more : (byte : ℕ) (line : List ℕ) (lines : List (List ℕ)) → 0 < length lines
    → join_with_byte byte (line ∷ lines) ≡ line ++ byte ∷ join_with_byte byte lines
join_more byte line [] some = absurd (omega arith)
join_more byte line (next ∷ lines) some = refl

-- a field line

pub tight_whole : (line name : List ℕ) → parts_at 58 line ≡ name ∷ [] → tight line ≡ name
tight_whole line name parts = ap (λ p. join_with_byte 58 (tightened p)) parts

tightened_more : (name : List ℕ) (parts : List (List ℕ)) → 0 < length parts
    → join_with_byte 58 (tightened (name ∷ parts))
    ≡ without_end_ows name ++ 58 ∷ join_with_byte 58 parts
tightened_more name [] some = absurd (omega arith)
tightened_more name (value ∷ values) some = refl

pub tight_name : (line name value : List ℕ) → parts_at 58 line ≡ name ∷ parts_at 58 value
    → tight line ≡ without_end_ows name ++ 58 ∷ value
tight_name line name value parts =
    ap (λ p. join_with_byte 58 (tightened p)) parts
    ∙ tightened_more name (parts_at 58 value) (parts_some 58 value)
    ∙ ap (λ rest. without_end_ows name ++ 58 ∷ rest) (join_with_byte-slice_split 58 value)

-- the field lines

abbrev pub printed : List ℕ → List (List ℕ) → List ℕ
printed line lines = join_with_byte 10 (map tight (unfolded line lines))

pub printed_first : (fields line : List ℕ) (lines : List (List ℕ))
    → parts_at 10 fields ≡ line ∷ lines
    → join_with_byte 10 (normal_fields (parts_at 10 fields)) ≡ printed line lines
printed_first fields line lines parts = ap (λ p. join_with_byte 10 (normal_fields p)) parts

pub printed_joined : (line next : List ℕ) (lines : List (List ℕ))
    → is_continuation next ≡ true → printed line (next ∷ lines) ≡ printed (joined line next) lines
printed_joined line next lines goes = rw goes refl

unfolded_some : (line : List ℕ) (lines : List (List ℕ)) → 0 < length (unfolded line lines)
unfolded_some line [] = omega arith
unfolded_some line (next ∷ lines) =
    by_test (is_continuation next) refl (unfolded_some (joined line next) lines)
  where
    by_test : (t : Bool) → is_continuation next ≡ t
        → 0 < length (unfolded (joined line next) lines)
        → 0 < length (unfolded line (next ∷ lines))
    by_test true goes more = rw goes more
    by_test false begins more = rw begins (omega arith)

pub printed_next : (line next : List ℕ) (lines : List (List ℕ))
    → is_continuation next ≡ false
    → printed line (next ∷ lines) ≡ tight line ++ 10 ∷ printed next lines
printed_next line next lines begins =
    let rest = unfolded next lines in
    let some : 0 < length (map tight rest) =
    omega (arith, length-map rest tight, unfolded_some next lines) in
    rw begins (join_more 10 (tight line) (map tight rest) some)

-- the lines before them

fields_some : (lines : List (List ℕ)) → 0 < length lines → 0 < length (normal_fields lines)
fields_some [] some = some
fields_some (line ∷ lines) some =
    omega (arith, length-map (unfolded line lines) tight, unfolded_some line lines)

lines_some : (lines : List (List ℕ)) → 0 < length lines → 0 < length (normal_lines lines)
lines_some [] some = some
lines_some (line ∷ lines) some = by_test (is_empty line) refl
  where
    by_test : (t : Bool) → is_empty line ≡ t → 0 < length (normal_lines (line ∷ lines))
    by_test true empty = rw empty (omega arith)
    by_test false other = rw other (omega arith)

pub normal_last : (left line : List ℕ) → parts_at 10 left ≡ line ∷ [] → normal left ≡ line
normal_last left line parts =
    ap (λ p. join_with_byte 10 (normal_lines p)) parts ∙ by_test (is_empty line) refl
  where
    by_test : (t : Bool) → is_empty line ≡ t → join_with_byte 10 (normal_lines (line ∷ [])) ≡ line
    by_test true empty = rw empty refl
    by_test false other = rw other refl

pub normal_empty : (left line behind : List ℕ) → parts_at 10 left ≡ line ∷ parts_at 10 behind
    → is_empty line ≡ true → normal left ≡ line ++ 10 ∷ normal behind
normal_empty left line behind parts empty =
    let rest = parts_at 10 behind in
    let more : join_with_byte 10 (line ∷ normal_lines rest) ≡ line ++ 10 ∷ normal behind =
    join_more 10 line (normal_lines rest) (lines_some rest (parts_some 10 behind)) in
    ap (λ p. join_with_byte 10 (normal_lines p)) parts ∙ rw empty more

pub normal_status : (left line behind : List ℕ) → parts_at 10 left ≡ line ∷ parts_at 10 behind
    → is_empty line ≡ false
    → normal left ≡ line ++ 10 ∷ join_with_byte 10 (normal_fields (parts_at 10 behind))
normal_status left line behind parts other =
    let rest = parts_at 10 behind in
    let more : join_with_byte 10 (line ∷ normal_fields rest)
    ≡ line ++ 10 ∷ join_with_byte 10 (normal_fields rest) =
    join_more 10 line (normal_fields rest) (fields_some rest (parts_some 10 behind)) in
    ap (λ p. join_with_byte 10 (normal_lines p)) parts ∙ rw other more

-- what was put so far, and what is put next

pub pushed_tight : (line name value out one two three : List ℕ)
    → parts_at 58 line ≡ name ∷ parts_at 58 value → one ≡ out ++ without_end_ows name
    → two ≡ one ++ 58 ∷ [] → three ≡ two ++ value → three ≡ out ++ tight line
pushed_tight line name value out one two three parts a b c =
    let front = without_end_ows name in
    c ∙ ap (λ x. x ++ value) (b ∙ ap (λ x. x ++ 58 ∷ []) a)
    ∙ append_assoc (out ++ front) (58 ∷ []) value ∙ append_assoc out front (58 ∷ value)
    ∙ ap (λ x. out ++ x) (sym (tight_name line name value parts))

pub pushed_line : (out line next new pushed ended all : List ℕ) (rest lines : List (List ℕ))
    → out ++ printed line rest ≡ all → rest ≡ next ∷ lines → is_continuation next ≡ false
    → pushed ≡ out ++ tight line → ended ≡ pushed ++ 10 ∷ [] → new ≡ next
    → ended ++ printed new lines ≡ all
pushed_line out line next new pushed ended all rest lines before parts begins a b c =
    let more = printed next lines in
    ap (λ x. x ++ printed new lines) (b ∙ ap (λ x. x ++ 10 ∷ []) a)
    ∙ ap (λ x. ((out ++ tight line) ++ 10 ∷ []) ++ printed x lines) c
    ∙ append_assoc (out ++ tight line) (10 ∷ []) more ∙ append_assoc out (tight line) (10 ∷ more)
    ∙ ap (λ x. out ++ x)
    (sym (printed_next line next lines begins) ∙ ap (printed line) (sym parts))
    ∙ before

three_parts : (out line rest : List ℕ) → ((out ++ line) ++ 10 ∷ []) ++ rest ≡ out ++ (line ++ 10 ∷ rest)
three_parts out line rest =
    append_assoc (out ++ line) (10 ∷ []) rest ∙ append_assoc out line (10 ∷ rest)

pub pushed_empty : (left line behind out one two all : List ℕ) → out ++ normal left ≡ all
    → parts_at 10 left ≡ line ∷ parts_at 10 behind → is_empty line ≡ true → one ≡ out ++ line
    → two ≡ one ++ 10 ∷ [] → two ++ normal behind ≡ all
pushed_empty left line behind out one two all before parts empty a b =
    ap (λ x. x ++ normal behind) (b ∙ ap (λ x. x ++ 10 ∷ []) a)
    ∙ three_parts out line (normal behind)
    ∙ ap (λ x. out ++ x) (sym (normal_empty left line behind parts empty)) ∙ before

pub pushed_status : (left line behind out one two three all : List ℕ) → out ++ normal left ≡ all
    → parts_at 10 left ≡ line ∷ parts_at 10 behind → is_empty line ≡ false → one ≡ out ++ line
    → two ≡ one ++ 10 ∷ []
    → three ≡ two ++ join_with_byte 10 (normal_fields (parts_at 10 behind)) → three ≡ all
pushed_status left line behind out one two three all before parts other a b c =
    let rest = join_with_byte 10 (normal_fields (parts_at 10 behind)) in
    c ∙ ap (λ x. x ++ rest) (b ∙ ap (λ x. x ++ 10 ∷ []) a) ∙ three_parts out line rest
    ∙ ap (λ x. out ++ x) (sym (normal_status left line behind parts other)) ∙ before
