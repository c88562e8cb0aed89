-- The bodies that are made are read back (RFC 9112, sections 6.2 and 7.1).
use Rattle.std.proofs.Common.{◌≡◌, ℕ, ◌≤◌, List, [], ◌∷◌, ◌++◌, length, take, refl, sym, ◌∙◌, ap, arith, append-nil, length-append, nat_le, true}
use Rattle.std.specs.List.{flat_map}
use Rattle.std.proofs.Math.Seq.{take-length, take-append_seam}
use Rattle.std.proofs.lemmas.Bool.{le-leb}
use Rattle.h1_body.specs.Body.{whole}
use Rattle.h1_body.specs.Chunks.{chunked}
use Rattle.h1_body.specs.Reader.{body}
use Rattle.h1_body.specs.Writer.{body_bytes}
use Rattle.h1_body.specs.Written.{chunk_bytes, last_chunk}
use Rattle.h1_body.specs.declared.framing.Framing.TheVariants.{Counted, Chunked}
use Rattle.h1_body.specs.declared.chunking.Chunking.TheVariants.{Start}
use Rattle.h1_body.specs.declared.chunking.TheConstants.{CHUNK_LIMIT}
use Rattle.h1_body.proofs.WrittenLemmas.{pieces_are_read}

-- a body of a stated length is what follows, through this length
pub counted_is_read : (payload rest : List ℕ)
    → body (Counted (length payload)) (body_bytes (Counted (length payload)) payload ++ rest)
    ≡ whole payload (length (body_bytes (Counted (length payload)) payload))
counted_is_read payload rest =
    let enough : nat_le (length payload) (length (payload ++ rest)) ≡ true =
    le-leb _ _ (omega (arith, length-append payload rest)) in
    let front : take (length payload) (payload ++ rest) ≡ payload = take-append_seam payload rest in
    rw take-length (rw enough (rw front refl))

-- one chunk and the end
pub chunk_is_read : (payload rest : List ℕ) → length payload ≤ CHUNK_LIMIT
    → body Chunked (body_bytes Chunked payload ++ rest)
    ≡ whole payload (length (body_bytes Chunked payload))
chunk_is_read payload rest small =
    let read : chunked Start (flat_map chunk_bytes (payload ∷ []) ++ last_chunk ++ rest)
    ≡ whole (flat_map (λ piece. piece) (payload ∷ []))
    (length (flat_map chunk_bytes (payload ∷ []) ++ last_chunk)) =
    pieces_are_read (payload ∷ []) rest (small, tt) in
    let one : chunk_bytes payload ++ [] ≡ chunk_bytes payload = append-nil (chunk_bytes payload) in
    let paid : payload ++ [] ≡ payload = append-nil payload in
    ap (λ bytes. chunked Start (bytes ++ last_chunk ++ rest)) (sym one) ∙ read
    ∙ ap (λ bytes. whole bytes (length ((chunk_bytes payload ++ []) ++ last_chunk))) paid
    ∙ ap (λ bytes. whole payload (length (bytes ++ last_chunk))) one
