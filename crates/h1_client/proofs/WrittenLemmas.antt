-- Lemmas on the body of a request as far as it was taken up.
use Rattle.std.proofs.Common.{◌≡◌, ℕ, ◌+◌, ◌-◌, ◌≤◌, min, List, [], ◌∷◌, ◌++◌, length, take, Bool, true, false, not, Option, Some, refl, sym, ap, ◌∙◌, subst, append-nil, length-append, length-take, arith}
use Rattle.std.specs.List.{flat_map, AllByRecursion}
use Rattle.std.specs.Prelude.{nat_le}
use Rattle.std.proofs.lemmas.Grind.{flat_map-append}
use Rattle.std.proofs.lemmas.Bool.{false≢true, and_parts, not-true}
use Rattle.std.proofs.lemmas.Bool.Decides.{nat_tests}
use Rattle.h1_body.specs.Body.{whole}
use Rattle.h1_body.specs.Reader.{body}
use Rattle.h1_body.specs.Written.{chunk_bytes, last_chunk}
use Rattle.h1_body.specs.Writer.{WriterView, begun, piece_bytes, after_piece, end_bytes, is_short, lacks}
use Rattle.h1_body.specs.declared.chunking.TheConstants.{CHUNK_LIMIT}
use Rattle.h1_body.specs.declared.framing.Framing.{Framing}
use Rattle.h1_body.specs.declared.framing.Framing.TheVariants.{Counted, Chunked, UntilClose}
use Rattle.h1_body.proofs.WrittenLemmas.{pieces_are_read}
use Rattle.h1_client.specs.Written.{FitsRequest, IsWrittenAs, WritesSoFar, is_written}

pub writes_none : (f : Framing) → FitsRequest f → WritesSoFar f (begun f) []
writes_none (Counted n) fits = record { framed = refl; bytes_are = (refl, omega arith, fits) }
writes_none Chunked fits = record { framed = refl; bytes_are = ([], tt, refl) }
writes_none UntilClose fits = absurd fits

all_on : (P : List ℕ → Type 0) (xs : List (List ℕ)) (x : List ℕ) → AllByRecursion P xs → P x
    → AllByRecursion P (xs ++ x ∷ [])
all_on P [] x all is = (is, tt)
all_on P (y ∷ ys) x all is = (all.0, all_on P ys x all.1 is)

-- one piece more, where the framing is known
piece_as : (f : Framing) (written : ℕ) (ended : Bool) (bytes piece : List ℕ)
    → length piece ≤ CHUNK_LIMIT → IsWrittenAs f written ended bytes
    → IsWrittenAs f (after_piece (record { framing = Some f; written = written; ended = ended })
    piece).written ended
    (bytes ++ piece_bytes (record { framing = Some f; written = written; ended = ended }) piece)
piece_as (Counted n) written false bytes piece within is =
    let cut : length (take (n - written) piece) ≡ min (n - written) (length piece) = length-take
    (n - written) piece in
    let len : length (bytes ++ take (n - written) piece) ≡ length bytes + length
    (take (n - written) piece) = length-append bytes (take (n - written) piece) in
    (omega (arith, is.0, is.1, is.2, cut, len), omega (arith, is.0, is.1, is.2, cut, len), is.2)
piece_as (Counted n) written true bytes piece within is =
    let len : length (bytes ++ []) ≡ length bytes = ap (λ (xs : List ℕ). length xs)
    (append-nil bytes) in
    (omega (arith, is.0, is.1, is.2, len), omega (arith, is.0, is.1, is.2, len), is.2)
piece_as Chunked written false bytes piece within is = (
  is.0 ++ piece ∷ [],
  all_on (λ piece. length piece ≤ CHUNK_LIMIT) is.0 piece is.1 within,
  ap (λ front. front ++ chunk_bytes piece) (is.2 ∙ append-nil (flat_map chunk_bytes is.0))
      ∙ ap (λ back. flat_map chunk_bytes is.0 ++ back) (sym (append-nil (chunk_bytes piece)))
      ∙ sym (flat_map-append chunk_bytes is.0 (piece ∷ []))
      ∙ sym (append-nil (flat_map chunk_bytes (is.0 ++ piece ∷ []))),
)
piece_as Chunked written true bytes piece within is = (is.0, is.1, append-nil bytes ∙ is.2)
piece_as UntilClose written ended bytes piece within is = absurd is

pub writes_piece : (f : Framing) (writer : WriterView) (bytes piece : List ℕ)
    → length piece ≤ CHUNK_LIMIT → WritesSoFar f writer bytes
    → WritesSoFar f (after_piece writer piece) (bytes ++ piece_bytes writer piece)
writes_piece f writer bytes piece within so_far = record {
  framed = so_far.framed;
  bytes_are = subst (λ (fr : Option Framing). IsWrittenAs f
      (after_piece (record { framing = fr; written = writer.written; ended = writer.ended })
      piece).written writer.ended
      (bytes ++ piece_bytes (record {
        framing = fr;
        written = writer.written;
        ended = writer.ended;
      }) piece)) (sym so_far.framed)
      (piece_as f writer.written writer.ended bytes piece within so_far.bytes_are);
}

end_as : (f : Framing) (written : ℕ) (ended : Bool) (bytes : List ℕ) → ended ≡ false
    → IsWrittenAs f written ended bytes
    → IsWrittenAs f written true (bytes ++ end_bytes
    (record { framing = Some f; written = written; ended = ended }))
end_as f written true bytes going is = absurd (false≢true (sym going))
end_as (Counted n) written false bytes going is =
    let len : length (bytes ++ []) ≡ length bytes = ap (λ (xs : List ℕ). length xs)
    (append-nil bytes) in
    (omega (arith, is.0, len), is.1, is.2)
end_as Chunked written false bytes going is =
    (is.0, is.1, ap (λ front. front ++ last_chunk) (is.2 ∙ append-nil (flat_map chunk_bytes is.0)))
end_as UntilClose written false bytes going is = absurd is

pub writes_end : (f : Framing) (writer : WriterView) (bytes : List ℕ) → writer.ended ≡ false
    → WritesSoFar f writer bytes
    → WritesSoFar f (record writer { ended = true }) (bytes ++ end_bytes writer)
writes_end f writer bytes going so_far = record {
  framed = so_far.framed;
  bytes_are = subst (λ (fr : Option Framing). IsWrittenAs f writer.written true
      (bytes ++ end_bytes (record {
        framing = fr;
        written = writer.written;
        ended = writer.ended;
      }))) (sym so_far.framed)
      (end_as f writer.written writer.ended bytes going so_far.bytes_are);
}

short_as : (f : Framing) (written : ℕ) (ended : Bool) (bytes : List ℕ)
    → lacks (Some f) written ≡ true → IsWrittenAs f written ended bytes
    → IsWrittenAs f written true bytes
short_as (Counted n) written ended bytes short is = is
short_as Chunked written ended bytes short is = absurd (false≢true short)
short_as UntilClose written ended bytes short is = absurd is

-- a body that ends short of its length
pub writes_short : (f : Framing) (writer : WriterView) (bytes : List ℕ) → is_short writer ≡ true
    → WritesSoFar f writer bytes
    → WritesSoFar f (record writer { ended = true }) bytes
writes_short f writer bytes short so_far = record {
  framed = so_far.framed;
  bytes_are = short_as f writer.written writer.ended bytes
      (ap (λ (fr : Option Framing). lacks fr writer.written) (sym so_far.framed) ∙ short)
      so_far.bytes_are;
}

whole_as : (f : Framing) (written : ℕ) (bytes : List ℕ) → lacks (Some f) written ≡ false
    → IsWrittenAs f written true bytes
    → (payload : List ℕ) × (body f bytes ≡ whole payload (length bytes))
whole_as (Counted n) written bytes long is =
    let enough : n ≤ written = grind (arith, nat_tests, long) in
    let same : n ≡ length bytes = omega (arith, is.0, is.1, enough) in
    let test : nat_le n (length bytes) ≡ true = grind (arith, nat_tests, same) in
    (take n bytes, rw test (ap (λ k. whole (take n bytes) k) same))
whole_as Chunked written bytes long is = (
  flat_map (λ piece. piece) is.0,
  rw is.2 (ap (λ xs. body Chunked xs) (sym (append-nil (flat_map chunk_bytes is.0 ++ last_chunk)))
      ∙ pieces_are_read is.0 [] is.1),
)
whole_as UntilClose written bytes long is = absurd is

pub writes_whole : (f : Framing) (writer : WriterView) (bytes : List ℕ) → is_written writer ≡ true
    → WritesSoFar f writer bytes
    → (payload : List ℕ) × (body f bytes ≡ whole payload (length bytes))
writes_whole f writer bytes done so_far =
    let both = and_parts writer.ended (not (is_short writer)) done in
    let long : lacks writer.framing writer.written ≡ false = not-true (is_short writer) both.1 in
    whole_as f writer.written bytes (ap (λ (fr : Option Framing). lacks fr writer.written)
    (sym so_far.framed) ∙ long)
    (subst (λ e. IsWrittenAs f writer.written e bytes) both.0 so_far.bytes_are)
