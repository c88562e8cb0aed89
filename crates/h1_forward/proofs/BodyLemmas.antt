-- A body that is written in pieces by the framing of a request is read back.
use Rattle.std.proofs.Common.{◌≡◌, ℕ, ◌+◌, ◌-◌, ◌^◌, ◌<◌, ◌≤◌, min, Bool, true, false, Some, List, [], ◌∷◌, ◌++◌, length, take, refl, sym, ap, ◌∙◌, inl, inr, arith, length-append, append_assoc, codes}
use Rattle.std.specs.List.{flat_map, AllByRecursion}
use Rattle.std.proofs.lemmas.List.{length-take, take_all, take_at}
use Rattle.std.proofs.lemmas.Bool.{cases_lt}
use Rattle.h1_fields.specs.Codings.{is_chunked_last}
use Rattle.h1_fields.specs.ContentLength.{IsNumber, content_length}
use Rattle.h1_fields.specs.Lines.{Line}
use Rattle.h1_fields.specs.ListParts.{parts_of}
use Rattle.h1_fields.specs.declared.content_length.ContentLength.{ContentLength}
use Rattle.h1_fields.specs.declared.content_length.ContentLength.TheVariants as stated
use Rattle.h1_fields.proofs.LengthLemmas.{length_only}
use Rattle.h1_body.specs.Body.{whole, unfinished}
use Rattle.h1_body.specs.Framing.{by_length, framing}
use Rattle.h1_body.specs.Reader.{body, counted}
use Rattle.h1_body.specs.Writer.{WriterView, after_piece, begun}
use Rattle.h1_body.specs.Written.{chunk_bytes, last_chunk}
use Rattle.h1_body.specs.declared.framing.Framing.{Framing}
use Rattle.h1_body.specs.declared.framing.Framing.TheVariants.{Counted, Chunked, UntilClose}
use Rattle.h1_body.proofs.CountedLemmas.{counted_has, counted_lacks}
use Rattle.h1_body.proofs.WrittenLemmas.{pieces_are_read}
use Rattle.h1_head.specs.Views.{RequestView}
use Rattle.h1_forward.specs.WrittenBody.{AreChunks, body_from, payload_of}

-- a framing that a request has
abbrev pub Fits : Framing → Type 0
Fits (Counted n) = n < 2 ^ 64
Fits Chunked = Unit {0}
Fits UntilClose = ⊥

number_fits : (n : ℕ) (parts : List (List ℕ)) → 0 < length parts → AllByRecursion (IsNumber n) parts
    → n < 2 ^ 64
number_fits n [] some all = absurd (omega arith)
number_fits n (part ∷ parts) some all = all.0.2

length_fits : (fields : List Line) (length : ContentLength) → content_length fields ≡ length
    → Fits (by_length (Counted 0) length)
length_fits fields stated.Absent is = omega arith
length_fits fields stated.Bad is = omega arith
length_fits fields (stated.Number n) is =
    let all = length_only n (parts_of (codes "Content-Length") fields) is in
    number_fits n (parts_of (codes "Content-Length") fields) all.0 all.1

-- a stated length fits its type, and no request ends with its link
pub framing_fits : (request : RequestView) → Fits (framing request)
framing_fits request = by_test (is_chunked_last request.fields) refl
  where
    by_test : (t : Bool) → is_chunked_last request.fields ≡ t → Fits (framing request)
    by_test true chunked = rw chunked tt
    by_test false other =
        rw other (length_fits request.fields (content_length request.fields) refl)

-- a writer of this framing that took so much
abbrev writer_at : Framing → ℕ → WriterView
writer_at f written = record { framing = Some f; written = written; ended = false }

-- the chunks of the pieces and the end
chunks_of : (written : ℕ) (pieces : List (List ℕ))
    → body_from (writer_at Chunked written) pieces ≡ flat_map chunk_bytes pieces ++ last_chunk
chunks_of written [] = refl
chunks_of written (piece ∷ pieces) =
    ap (λ rest. chunk_bytes piece ++ rest)
    (chunks_of (after_piece (writer_at Chunked written) piece).written pieces)
    ∙ sym (append_assoc (chunk_bytes piece) (flat_map chunk_bytes pieces) last_chunk)

-- the pieces themselves, which are no more than the length
pieces_of : (n written : ℕ) (pieces : List (List ℕ)) → n < 2 ^ 64
    → written + length (payload_of pieces) ≤ n
    → body_from (writer_at (Counted n) written) pieces ≡ payload_of pieces
pieces_of n written [] fits within = refl
pieces_of n written (piece ∷ pieces) fits within =
    let long : length (piece ++ payload_of pieces) ≡ length piece + length (payload_of pieces) =
    length-append piece (payload_of pieces) in
    let all : take (n - written) piece ≡ piece =
    take_all (n - written) piece (omega (arith, within, long)) in
    let count : min (written + length (take (n - written) piece)) (2 ^ 64 - 1)
    ≡ written + length piece =
    ap (λ p. min (written + length p) (2 ^ 64 - 1)) all ∙ omega (arith, within, long, fits) in
    ap (λ p. p ++ body_from (after_piece (writer_at (Counted n) written) piece) pieces) all
    ∙ ap (λ k. piece ++ body_from (writer_at (Counted n) k) pieces) count
    ∙ ap (λ rest. piece ++ rest)
    (pieces_of n (written + length piece) pieces fits (omega (arith, within, long)))

-- a whole body of a stated length has that many bytes
counted_long : (n k : ℕ) (bytes payload : List ℕ) → counted n bytes ≡ whole payload k
    → length payload ≡ n
counted_long n k bytes payload is = elim (cases_lt (length bytes) n) [
  | inl lacks ↦
      let clash : unfinished bytes ≡ whole payload k = sym (counted_lacks n bytes lacks) ∙ is in
      absurd cc
  | inr has ↦
      let told : whole (take n bytes) n ≡ whole payload k = sym (counted_has n bytes has) ∙ is in
      let same : take n bytes ≡ payload = cc in
      let long : length payload ≡ length (take n bytes) = ap length (sym same) in
      omega (arith, has, long, length-take n bytes)
]

-- bytes of a stated length are a whole body, whatever follows
counted_whole : (bytes more : List ℕ)
    → counted (length bytes) (bytes ++ more) ≡ whole bytes (length bytes)
counted_whole bytes more =
    counted_has (length bytes) (bytes ++ more) (omega (arith, length-append bytes more))
    ∙ ap (λ front. whole front (length bytes)) (take_at bytes more (length bytes) refl)

-- the payload of a whole body, written in pieces by the same framing, is a whole body again
pub body_back : (f : Framing) (source : List ℕ) (k : ℕ) (pieces : List (List ℕ)) (more : List ℕ)
    → Fits f → AreChunks pieces → body f source ≡ whole (payload_of pieces) k
    → body f (body_from (begun f) pieces ++ more)
    ≡ whole (payload_of pieces) (length (body_from (begun f) pieces))
body_back (Counted n) source k pieces more fits small is =
    let long = counted_long n k source (payload_of pieces) is in
    let same : body_from (begun (Counted n)) pieces ≡ payload_of pieces =
    pieces_of n 0 pieces fits (omega (arith, long)) in
    ap (λ bytes. counted n (bytes ++ more)) same
    ∙ ap (λ m. counted m (payload_of pieces ++ more)) (sym long)
    ∙ counted_whole (payload_of pieces) more
    ∙ ap (λ bytes. whole (payload_of pieces) (length bytes)) (sym same)
body_back Chunked source k pieces more fits small is =
    let same : body_from (begun Chunked) pieces ≡ flat_map chunk_bytes pieces ++ last_chunk =
    chunks_of 0 pieces in
    ap (λ bytes. body Chunked (bytes ++ more)) same
    ∙ pieces_are_read pieces more small
    ∙ ap (λ bytes. whole (payload_of pieces) (length bytes)) (sym same)
body_back UntilClose source k pieces more fits small is = absurd fits
