-- What a reader of chunks makes of each part of the grammar.
use Rattle.std.proofs.Common.{◌≡◌, ℕ, ◌+◌, ◌-◌, ◌*◌, ◌/◌, ◌<◌, ◌≤◌, List, [], ◌∷◌, ◌++◌, length, refl, sym, ap, subst, ◌∙◌, append-nil, zero-add, arith, length-append, true, false, Bool, not, ◌&&◌, ◌==◌, nat_lt, nat_le, Some, None, IfSome, Option, cond}
use Rattle.std.proofs.lemmas.Bool.Decides.{nat_tests}
use Rattle.std.proofs.lemmas.Bool.{false≢true}
use Rattle.std.specs.List.{flat_map, AllByRecursion}
use Rattle.std.specs.Str.Parse.{digits_value_after, AllDigits}
use Rattle.std.specs.Char.{digit_value}
use Rattle.h1_body.specs.Chunks.{step, use_of, skips, behind_size, is_text}
use Rattle.h1_body.specs.ChunkedBody.{SizeLine, Chunk, crlf, print_extension, print_size_line, print_chunk, IsText, IsSizeLine, IsChunk}
use Rattle.h1_body.specs.declared.chunking.Chunking.{Chunking}
use Rattle.h1_body.specs.declared.chunking.Chunking.TheVariants.{Start, Size, Extension, SizeLf, Data, DataCr, DataLf, Trailers, Broken}
use Rattle.h1_body.specs.declared.chunking.TheConstants.{SIZE_LINE_LIMIT, CHUNK_LIMIT, TRAILERS_LIMIT}
use Rattle.h1_body.proofs.RunLemmas.{Runs, run_none, run_then, run_skip, run_whole}

-- a byte that is passed over, where the step is known
pub skipped : (s to : Chunking) (b : ℕ) → use_of s ≡ skips → step s b ≡ to → Runs s (b ∷ []) [] to
skipped s to b over e = subst (λ (t : Chunking). Runs s (b ∷ []) [] t) e (run_skip s b over)

-- a byte before a run
pub skip_then : {s mid to : Chunking} {b : ℕ} {bytes payload : List ℕ} → Runs s (b ∷ []) [] mid
    → Runs mid bytes payload to → Runs s (b ∷ bytes) payload to
skip_then one two = run_then one two

digit_step : (left size b : ℕ) → digit_value b < 16 → 0 < left → size ≤ CHUNK_LIMIT / 16
    → step (Size left size) b ≡ Size (left - 1) (size * 16 + digit_value b)
digit_step left size b hex some small = grind (arith, nat_tests)

pub value-grows : (n : ℕ) (digits : List ℕ) → n ≤ digits_value_after 16 n digits
value-grows n [] = omega arith
value-grows n (d ∷ digits) = omega (arith, value-grows (n * 16 + digit_value d) digits)

-- digits of a size after others
run_digits : (left size : ℕ) (digits : List ℕ) → AllDigits 16 digits → length digits ≤ left
    → digits_value_after 16 size digits ≤ CHUNK_LIMIT
    → Runs (Size left size) digits []
    (Size (left - length digits) (digits_value_after 16 size digits))
run_digits left size [] hex few small =
    subst (λ k. Runs (Size left size) [] [] (Size k size)) (omega arith) (run_none (Size left size))
run_digits left size (d ∷ digits) hex few small =
    let grown : size * 16 + digit_value d ≤ digits_value_after 16
    (size * 16 + digit_value d) digits = value-grows (size * 16 + digit_value d) digits in
    let room : size ≤ CHUNK_LIMIT / 16 = omega arith in
    let one = skipped (Size left size) (Size (left - 1) (size * 16 + digit_value d)) d refl
    (digit_step left size d hex.0 (omega arith) room) in
    let same : left - 1 - length digits ≡ left - length (d ∷ digits) = omega arith in
    subst (λ k. Runs (Size left size) (d ∷ digits) []
    (Size k (digits_value_after 16 (size * 16 + digit_value d) digits))) same
    (skip_then one (run_digits (left - 1) (size * 16 + digit_value d) digits hex.1
    (omega arith) small))

pub both_parts : (s t : Bool) → (s && t) ≡ true → (s ≡ true) × (t ≡ true)
both_parts true t e = (refl, e)
both_parts false t e = absurd (false≢true e)

pub both : (s t : Bool) → s ≡ true → t ≡ true → (s && t) ≡ true
both s t e f = rw (e, f) refl

not_false : (s : Bool) → not s ≡ true → s ≡ false
not_false true e = absurd (false≢true e)
not_false false e = refl

-- the second of three ways
pub second_way : (s t : Bool) (a b c : Chunking) → s ≡ false → t ≡ true → cond s a (cond t b c) ≡ b
second_way s t a b c e f = rw (e, f) refl

pub above : (m n : ℕ) → m < n → nat_lt m n ≡ true
above m n h = grind (arith, nat_tests)

pub at_least : (m n : ℕ) → m ≤ n → nat_le m n ≡ true
at_least m n h = grind (arith, nat_tests)

-- a byte of text is not CR
pub text_not_cr : (b : ℕ) → is_text b ≡ true → (b == 13) ≡ false
text_not_cr b text =
    not_false (b == 13) (both_parts (not (b == 13)) (not (b == 10) && not (b == 0)) text).0

text_step : (left size b : ℕ) → is_text b ≡ true → 0 < left
    → step (Extension left size) b ≡ Extension (left - 1) size
text_step left size b text some =
    second_way (b == 13) (is_text b && nat_lt 0 left) (SizeLf size)
    (Extension (left - 1) size) Broken (text_not_cr b text) (both _ _ text (above 0 left some))

-- the text of an extension
run_text : (left size : ℕ) (text : List ℕ) → IsText text → length text ≤ left
    → Runs (Extension left size) text [] (Extension (left - length text) size)
run_text left size [] is few =
    subst (λ k. Runs (Extension left size) [] [] (Extension k size)) (omega arith)
    (run_none (Extension left size))
run_text left size (b ∷ text) is few =
    let one = skipped (Extension left size) (Extension (left - 1) size) b refl
    (text_step left size b is.0 (omega arith)) in
    let same : left - 1 - length text ≡ left - length (b ∷ text) = omega arith in
    subst (λ k. Runs (Extension left size) (b ∷ text) [] (Extension k size)) same
    (skip_then one (run_text (left - 1) size text is.1 (omega arith)))

-- CRLF after a size, and after an extension
pub run_size_end : (left size : ℕ) → Runs (Size left size) crlf [] (behind_size size)
run_size_end left size =
    skip_then (run_skip (Size left size) 13 refl) (run_skip (SizeLf size) 10 refl)

pub run_extension_end : (left size : ℕ) → Runs (Extension left size) crlf [] (behind_size size)
run_extension_end left size =
    skip_then (run_skip (Extension left size) 13 refl) (run_skip (SizeLf size) 10 refl)

-- what follows the digits of a size line
run_line_end : (left size : ℕ) (extension : Option (List ℕ)) → IfSome extension IsText
    → length (print_extension extension) ≤ SIZE_LINE_LIMIT - 18 + left
    → Runs (Size left size) (print_extension extension ++ crlf) [] (behind_size size)
run_line_end left size None is few = run_size_end left size
run_line_end left size (Some text) is few =
    skip_then (run_skip (Size left size) 59 refl)
    (run_then (run_text (SIZE_LINE_LIMIT - 19 + left) size text is (omega arith))
    (run_extension_end _ size))

first_step : (b : ℕ) → digit_value b < 16 → step Start b ≡ Size 15 (digit_value b)
first_step b hex = grind (arith, nat_tests)

run_line : (size : ℕ) (digits : List ℕ) (extension : Option (List ℕ))
    → IsSizeLine size (record { digits = digits; extension = extension })
    → Runs Start (digits ++ (print_extension extension ++ crlf)) [] (behind_size size)
run_line size [] extension is = absurd (omega (arith, is.some))
run_line size (d ∷ digits) extension is =
    let first = skipped Start (Size 15 (digit_value d)) d refl (first_step d is.digits.0) in
    let value : digits_value_after 16 (digit_value d) digits ≡ size =
    ap (λ n. digits_value_after 16 n digits) (sym (zero-add (digit_value d))) ∙ is.value in
    let small : digits_value_after 16 (digit_value d) digits ≤ CHUNK_LIMIT =
    omega (arith, is.limited) in
    let few : length digits ≤ 15 = omega (arith, is.few) in
    let others = run_digits 15 (digit_value d) digits is.digits.1 few small in
    let both_lengths = length-append (d ∷ digits) (print_extension extension ++ crlf) in
    let end_lengths = length-append (print_extension extension) crlf in
    let room : length (print_extension extension) ≤ SIZE_LINE_LIMIT - 18 + (15 - length digits) =
    omega (arith, is.short) in
    let behind = run_line_end (15 - length digits) size extension is.extension room in
    skip_then first (run_then
    (subst (λ n. Runs (Size 15 (digit_value d)) digits [] (Size (15 - length digits) n)) value
    others) behind)

pub run_size_line : (size : ℕ) (line : SizeLine) → IsSizeLine size line
    → Runs Start (print_size_line line) [] (behind_size size)
run_size_line size line is = run_line size line.digits line.extension is

pub data_behind : (size : ℕ) → 0 < size → behind_size size ≡ Data (size - 1)
data_behind size h = grind (arith, nat_tests)

pub trailers_behind : (size : ℕ) → size ≤ 0 → behind_size size ≡ Trailers TRAILERS_LIMIT
trailers_behind size h = grind (arith, nat_tests)

-- CRLF after data
pub run_data_end : Runs DataCr crlf [] Start
run_data_end = skip_then (run_skip DataCr 13 refl) (run_skip DataLf 10 refl)

pub run_chunk : (chunk : Chunk) → IsChunk chunk → Runs Start (print_chunk chunk) chunk.content Start
run_chunk chunk is =
    let n = length chunk.content in
    let line = subst (λ s. Runs Start (print_size_line chunk.line) [] s) (data_behind n is.some)
    (run_size_line n chunk.line is.line) in
    let all_data = run_whole (n - 1) chunk.content (omega (arith, is.some)) in
    let whole_chunk = run_then line (run_then all_data run_data_end) in
    subst (λ payload. Runs Start (print_chunk chunk) payload Start)
    (append-nil chunk.content) whole_chunk

pub run_chunks : (chunks : List Chunk) → AllByRecursion IsChunk chunks
    → Runs Start (flat_map print_chunk chunks) (flat_map (λ chunk. chunk.content) chunks) Start
run_chunks [] is = run_none Start
run_chunks (chunk ∷ chunks) is = run_then (run_chunk chunk is.0) (run_chunks chunks is.1)
