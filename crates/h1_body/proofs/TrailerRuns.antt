-- What a reader of chunks makes of trailers, and of a whole body.
use Rattle.std.proofs.Common.{◌≡◌, ℕ, ◌+◌, ◌-◌, ◌<◌, ◌≤◌, List, [], ◌∷◌, ◌++◌, length, refl, sym, ap, subst, ◌∙◌, append-nil, arith, length-append, add-zero, inl, inr, true, false, ◌&&◌, ◌==◌, nat_lt, nat_le}
use Rattle.std.proofs.lemmas.Bool.Decides.{eqb_tells}
use Rattle.std.proofs.lemmas.Bool.{false≢true}
use Rattle.std.specs.List.{flat_map, AllByRecursion}
use Rattle.httparse.specs.Grammar.{is_token_byte}
use Rattle.h1_body.specs.Body.{whole, broken, ahead}
use Rattle.h1_body.specs.Chunks.{chunked, step, is_text}
use Rattle.h1_body.specs.ChunkedBody.{Trailer, ChunkedBody, crlf, print_trailer, print_body, content, IsText, IsTchars, IsTrailer, IsChunkedBody}
use Rattle.h1_body.specs.declared.chunking.Chunking.TheVariants.{Start, Trailers, Name, Value, ValueLf, EndLf, Done, Broken}
use Rattle.h1_body.specs.declared.chunking.TheConstants.{TRAILERS_LIMIT}
use Rattle.h1_body.proofs.RunLemmas.{Runs, run_none, run_then, run_skip}
use Rattle.h1_body.proofs.GrammarRuns.{skipped, skip_then, both, second_way, above, at_least, text_not_cr, run_size_line, run_chunks}

pub cr_is_no_tchar : is_token_byte 13 ≡ false
unfolding is_token_byte
cr_is_no_tchar = refl

colon_is_no_tchar : is_token_byte 58 ≡ false
unfolding is_token_byte
colon_is_no_tchar = refl

apart : (c b : ℕ) → is_token_byte c ≡ false → is_token_byte b ≡ true → (b == c) ≡ false
apart c b none token = elim (eqb_tells b c) [
  | inl same ↦ absurd (false≢true (sym none ∙ ap is_token_byte (sym same.1) ∙ token))
  | inr differ ↦ differ.0
]

line_step : (left b : ℕ) → is_token_byte b ≡ true → 4 ≤ left
    → step (Trailers left) b ≡ Name (left - 4)
line_step left b token room =
    second_way (b == 13) (is_token_byte b && nat_le 4 left) EndLf (Name (left - 4)) Broken
    (apart 13 b cr_is_no_tchar token) (both _ _ token (at_least 4 left room))

name_step : (left b : ℕ) → is_token_byte b ≡ true → 0 < left → step (Name left) b ≡ Name (left - 1)
name_step left b token room =
    second_way (b == 58) (is_token_byte b && nat_lt 0 left) (Value left) (Name (left - 1)) Broken
    (apart 58 b colon_is_no_tchar token) (both _ _ token (above 0 left room))

value_step : (left b : ℕ) → is_text b ≡ true → 0 < left → step (Value left) b ≡ Value (left - 1)
value_step left b text room =
    second_way (b == 13) (is_text b && nat_lt 0 left) (ValueLf left) (Value (left - 1)) Broken
    (text_not_cr b text) (both _ _ text (above 0 left room))

run_name : (left : ℕ) (name : List ℕ) → IsTchars name → length name ≤ left
    → Runs (Name left) name [] (Name (left - length name))
run_name left [] is few =
    subst (λ k. Runs (Name left) [] [] (Name k)) (omega arith) (run_none (Name left))
run_name left (b ∷ name) is few =
    let one = skipped (Name left) (Name (left - 1)) b refl (name_step left b is.0 (omega arith)) in
    let same : left - 1 - length name ≡ left - length (b ∷ name) = omega arith in
    subst (λ k. Runs (Name left) (b ∷ name) [] (Name k)) same
    (skip_then one (run_name (left - 1) name is.1 (omega arith)))

run_value : (left : ℕ) (value : List ℕ) → IsText value → length value ≤ left
    → Runs (Value left) value [] (Value (left - length value))
run_value left [] is few =
    subst (λ k. Runs (Value left) [] [] (Value k)) (omega arith) (run_none (Value left))
run_value left (b ∷ value) is few =
    let one = skipped (Value left) (Value (left - 1)) b refl
    (value_step left b is.0 (omega arith)) in
    let same : left - 1 - length value ≡ left - length (b ∷ value) = omega arith in
    subst (λ k. Runs (Value left) (b ∷ value) [] (Value k)) same
    (skip_then one (run_value (left - 1) value is.1 (omega arith)))

-- CRLF after a value
pub run_value_end : (left : ℕ) → Runs (Value left) crlf [] (Trailers left)
run_value_end left = skip_then (run_skip (Value left) 13 refl) (run_skip (ValueLf left) 10 refl)

run_trailer_of : (left : ℕ) (name value : List ℕ) → 0 < length name → IsTchars name → IsText value
    → length name + length value + 3 ≤ left
    → Runs (Trailers left) (name ++ 58 ∷ (value ++ crlf)) []
    (Trailers (left - (length name + length value + 3)))
run_trailer_of left [] value some is text room = absurd (omega arith)
run_trailer_of left (b ∷ name) value some is text room =
    let first = skipped (Trailers left) (Name (left - 4)) b refl
    (line_step left b is.0 (omega arith)) in
    let others = run_name (left - 4) name is.1 (omega arith) in
    let colon : Runs (Name (left - 4 - length name)) (58 ∷ []) [] (Value (left - 4 - length name)) =
    run_skip (Name (left - 4 - length name)) 58 refl in
    let behind = run_then (run_value (left - 4 - length name) value text (omega arith))
    (run_value_end _) in
    let same : left - 4 - length name - length value ≡ left -
    (length (b ∷ name) + length value + 3) = omega arith in
    subst (λ k. Runs (Trailers left) ((b ∷ name) ++ 58 ∷ (value ++ crlf)) [] (Trailers k)) same
    (skip_then first (run_then others (skip_then colon behind)))

pub length-print_trailer : (trailer : Trailer)
    → length (print_trailer trailer) ≡ length trailer.name + length trailer.value + 3
length-print_trailer trailer =
    omega (
      arith,
      length-append trailer.name (58 ∷ (trailer.value ++ crlf)),
      length-append trailer.value crlf,
    )

run_trailers : (left : ℕ) (trailers : List Trailer) → AllByRecursion IsTrailer trailers
    → length (flat_map print_trailer trailers) ≤ left
    → Runs (Trailers left) (flat_map print_trailer trailers) []
    (Trailers (left - length (flat_map print_trailer trailers)))
run_trailers left [] is short =
    subst (λ k. Runs (Trailers left) [] [] (Trailers k)) (omega arith) (run_none (Trailers left))
run_trailers left (trailer ∷ trailers) is short =
    let n = length trailer.name + length trailer.value + 3 in
    let len : length (print_trailer trailer) ≡ n = length-print_trailer trailer in
    let all_lengths = length-append (print_trailer trailer) (flat_map print_trailer trailers) in
    let one = run_trailer_of left trailer.name trailer.value is.0.some is.0.name is.0.value
    (omega arith) in
    let others = run_trailers (left - n) trailers is.1 (omega arith) in
    let same : left - n - length (flat_map print_trailer trailers) ≡ left - length
    (flat_map print_trailer (trailer ∷ trailers)) = omega arith in
    subst (λ k. Runs (Trailers left) (flat_map print_trailer (trailer ∷ trailers)) [] (Trailers k))
    same (run_then one others)

-- the empty line
pub run_end : (left : ℕ) → Runs (Trailers left) crlf [] Done
run_end left = skip_then (run_skip (Trailers left) 13 refl) (run_skip EndLf 10 refl)

pub run_body : (body : ChunkedBody) → IsChunkedBody body
    → Runs Start (print_body body) (content body) Done
run_body body is =
    let end = run_then (run_size_line 0 body.last is.last)
    (run_then (run_trailers TRAILERS_LIMIT body.trailers is.trailers is.short) (run_end _)) in
    subst (λ payload. Runs Start (print_body body) payload Done) (append-nil (content body))
    (run_then (run_chunks body.chunks is.chunks) end)

pub done_takes_none : (bytes : List ℕ) → chunked Done bytes ≡ whole [] 0
done_takes_none [] = refl
done_takes_none (b ∷ bytes) = refl

pub broken_takes_none : (bytes : List ℕ) → chunked Broken bytes ≡ broken []
broken_takes_none [] = refl
broken_takes_none (b ∷ bytes) = refl

pub whole_alone : (payload : List ℕ) (n : ℕ) → whole (payload ++ []) (n + 0) ≡ whole payload n
whole_alone payload n = rw (append-nil payload, add-zero n) refl

-- each valid tree is read, whatever follows its bytes
pub body_is_read : (body : ChunkedBody) (rest : List ℕ) → IsChunkedBody body
    → chunked Start (print_body body ++ rest) ≡ whole (content body) (length (print_body body))
body_is_read body rest is =
    (run_body body is).reads rest
    ∙ ap (ahead (content body) (length (print_body body))) (done_takes_none rest)
    ∙ whole_alone (content body) (length (print_body body))
