-- What a writer of bodies gives, and that it is read back.
use Rattle.std.proofs.Common.{◌≡◌, ℕ, ◌+◌, ◌-◌, ◌<◌, ◌≤◌, List, [], ◌∷◌, ◌++◌, length, take, map, refl, sym, ap, subst, ◌∙◌, append_assoc, append-nil, arith, length-append, None, ◌/◌, inl, inr}
use Rattle.std.proofs.lemmas.List.{length-map}
use Rattle.std.proofs.lemmas.Bool.{cases_lt}
use Rattle.std.proofs.lemmas.Bool.Decides.{nat_tests}
use Rattle.std.specs.List.{flat_map, AllByRecursion}
use Rattle.std.specs.Int.Digits.{digits_of, number_from_digits, AllBelowBase}
use Rattle.std.specs.Str.Parse.{AllDigits}
use Rattle.std.specs.Char.{digit_value}
use Rattle.std.proofs.lemmas.Int.Digits.{digits_value_is, number_digits_of, all_below_base_digits_of, length-digits_of-le, length-digits_of_step}
use Rattle.h1_body.specs.Body.{whole, ahead}
use Rattle.h1_body.specs.Chunks.{chunked}
use Rattle.h1_body.specs.ChunkedBody.{Chunk, IsSizeLine, IsChunk, crlf}
use Rattle.h1_body.specs.Writer.{piece_bytes, after_piece, end_bytes, begun, body_bytes}
use Rattle.h1_body.specs.Written.{size_digits, upper_digit, chunk_bytes, last_chunk}
use Rattle.h1_body.specs.declared.framing.Framing.{Framing}
use Rattle.h1_body.specs.declared.framing.Framing.TheVariants as framing
use Rattle.h1_body.specs.declared.chunking.Chunking.TheVariants.{Start, Done}
use Rattle.h1_body.specs.declared.chunking.TheConstants.{CHUNK_LIMIT}
use Rattle.h1_body.proofs.RunLemmas.{Runs, run_none, run_then}
use Rattle.h1_body.proofs.GrammarRuns.{run_chunk}
use Rattle.h1_body.proofs.EndingLemmas.{run_empty_body}
use Rattle.h1_body.proofs.TrailerRuns.{done_takes_none, whole_alone}

-- one piece and the end are the whole body
pub one_piece : (f : Framing) (payload : List ℕ)
    → piece_bytes (begun f) payload ++ end_bytes
    (after_piece (begun f) payload) ≡ body_bytes f payload
one_piece (framing.Counted n) payload =
    let same : n - 0 ≡ n = omega arith in
    append-nil (take (n - 0) payload) ∙ ap (λ k. take k payload) same
one_piece framing.Chunked payload = refl
one_piece framing.UntilClose payload = append-nil payload

upper_small : (d : ℕ) → d < 10 → upper_digit d ≡ 48 + d
upper_small d h = grind (arith, nat_tests)

upper_large : (d : ℕ) → 10 ≤ d → upper_digit d ≡ 55 + d
upper_large d h = grind (arith, nat_tests)

value_small : (c : ℕ) → 48 ≤ c → c < 58 → digit_value c ≡ c - 48
value_small c low high = grind (arith, nat_tests)

value_large : (c : ℕ) → 65 ≤ c → c < 91 → digit_value c ≡ c - 55
value_large c low high = grind (arith, nat_tests)

upper_value : (d : ℕ) → d < 16 → digit_value (upper_digit d) ≡ d
upper_value d h = elim (cases_lt d 10) [
  | inl few ↦
      let back : 48 + d - 48 ≡ d = omega arith in
      ap digit_value (upper_small d few) ∙ value_small (48 + d) (omega arith) (omega arith) ∙ back
  | inr many ↦
      let back : 55 + d - 55 ≡ d = omega arith in
      ap digit_value (upper_large d many) ∙ value_large (55 + d) (omega arith) (omega arith) ∙ back
]

upper_values : (ds : List ℕ) → AllBelowBase 16 ds → map digit_value (map upper_digit ds) ≡ ds
upper_values [] below = refl
upper_values (d ∷ ds) below =
    ap (λ v. v ∷ map digit_value (map upper_digit ds)) (upper_value d below.0)
    ∙ ap (λ vs. d ∷ vs) (upper_values ds below.1)

upper_digits : (ds : List ℕ) → AllBelowBase 16 ds → AllDigits 16 (map upper_digit ds)
upper_digits [] below = tt
upper_digits (d ∷ ds) below =
    (omega (arith, upper_value d below.0, below.0), upper_digits ds below.1)

-- the line of a size reads as that size
size_line_is_valid : (n : ℕ) → 0 < n → n ≤ CHUNK_LIMIT
    → IsSizeLine n (record { digits = size_digits n; extension = None })
unfolding size_digits
size_line_is_valid n some small =
    let below : AllBelowBase 16 (digits_of 16 n) = all_below_base_digits_of 16 n (omega arith) in
    let few : length (digits_of 16 n) ≤ 16 =
    length-digits_of-le 16 16 n (omega arith) (omega arith) in
    let same : length (map upper_digit (digits_of 16 n)) ≡ length (digits_of 16 n) =
    length-map (digits_of 16 n) upper_digit in
    let one_more : length (digits_of 16 n) ≡ length (digits_of 16 (n / 16)) + 1 =
    length-digits_of_step 16 n (omega arith) some in
    let printed = length-append (map upper_digit (digits_of 16 n)) crlf in
    record {
      some = omega arith;
      few = omega arith;
      digits = upper_digits (digits_of 16 n) below;
      value = digits_value_is 16 (map upper_digit (digits_of 16 n))
          ∙ ap (number_from_digits 16) (upper_values (digits_of 16 n) below)
          ∙ number_digits_of 16 n (omega arith);
      limited = small;
      extension = tt;
      short = omega arith;
    }

chunk_printed : (n : ℕ) (payload : List ℕ)
    → (size_digits n ++ crlf) ++ (payload ++ crlf) ≡ size_digits n ++ crlf ++ payload ++ crlf
chunk_printed n payload = sym (append_assoc (size_digits n ++ crlf) payload crlf)

-- the chunk of a piece is read as the piece
run_chunk_bytes : (payload : List ℕ) → length payload ≤ CHUNK_LIMIT
    → Runs Start (chunk_bytes payload) payload Start
run_chunk_bytes [] small = run_none Start
run_chunk_bytes (b ∷ payload) small =
    let all = b ∷ payload in
    let n = length all in
    let chunk : Chunk = record
    { line = record { digits = size_digits n; extension = None }; content = all } in
    let is : IsChunk chunk =
    record { line = size_line_is_valid n (omega arith) small; some = omega arith } in
    subst (λ (bytes : List ℕ). Runs Start bytes all Start) (chunk_printed n all)
    (run_chunk chunk is)

abbrev pub AreChunkable : List (List ℕ) → Type 0
AreChunkable pieces = AllByRecursion (λ piece. length piece ≤ CHUNK_LIMIT) pieces

run_pieces : (pieces : List (List ℕ)) → AreChunkable pieces
    → Runs Start (flat_map chunk_bytes pieces) (flat_map (λ piece. piece) pieces) Start
run_pieces [] small = run_none Start
run_pieces (piece ∷ pieces) small =
    run_then (run_chunk_bytes piece small.0) (run_pieces pieces small.1)

-- chunks of pieces and the end are read as the pieces, whatever follows
pub pieces_are_read : (pieces : List (List ℕ)) (rest : List ℕ)
    → AllByRecursion (λ piece. length piece ≤ CHUNK_LIMIT) pieces
    → chunked Start (flat_map chunk_bytes pieces ++ last_chunk ++ rest) ≡ whole
    (flat_map (λ piece. piece) pieces) (length (flat_map chunk_bytes pieces ++ last_chunk))
pieces_are_read pieces rest small =
    let paid = flat_map (λ piece. piece) pieces in
    let sent = flat_map chunk_bytes pieces ++ last_chunk in
    let all : Runs Start sent (paid ++ []) Done =
    run_then (run_pieces pieces small) run_empty_body in
    let same : Runs Start sent paid Done =
    subst (λ (p : List ℕ). Runs Start sent p Done) (append-nil paid) all in
    same.reads rest ∙ ap (ahead paid (length sent)) (done_takes_none rest)
    ∙ whole_alone paid (length sent)
