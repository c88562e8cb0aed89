-- The body of a request as far as it was taken up (RFC 9112, sections 6 and 7.1).
use Rattle.std.specs.Prelude.{◌≡◌, ℕ, ◌≤◌, ◌<◌, ◌^◌, List, [], ◌++◌, length, Bool, true, false, ◌&&◌, not, Some}
use Rattle.std.specs.List.{flat_map, AllByRecursion}
use Rattle.h1_body.specs.Written.{chunk_bytes, last_chunk}
use Rattle.h1_body.specs.declared.chunking.TheConstants.{CHUNK_LIMIT}
use Rattle.h1_client.specs.Words.{Framing, Counted, Chunked, UntilClose, WriterView, is_short}

-- a framing that a request can have, with a length that fits its type
abbrev pub FitsRequest : Framing → Type 0
FitsRequest (Counted n) = n < 2 ^ 64
FitsRequest Chunked = Unit {0}
FitsRequest UntilClose = ⊥

abbrev pub end_if : Bool → List ℕ
end_if true = last_chunk
end_if false = []

-- these bytes are those of the pieces that a writer of this framing took
abbrev pub IsWrittenAs : Framing → ℕ → Bool → List ℕ → Type 0
IsWrittenAs (Counted n) written ended bytes =
    (length bytes ≡ written) × (written ≤ n) × (n < 2 ^ 64)
IsWrittenAs Chunked written ended bytes =
    (pieces : List (List ℕ)) × AllByRecursion (λ piece. length piece ≤ CHUNK_LIMIT) pieces
    × (bytes ≡ flat_map chunk_bytes pieces ++ end_if ended)
IsWrittenAs UntilClose written ended bytes = ⊥

pub record WritesSoFar (framing : Framing) (writer : WriterView) (bytes : List ℕ) : Type 0 where
  pub framed : writer.framing ≡ Some framing
  pub bytes_are : IsWrittenAs framing writer.written writer.ended bytes

-- the body was ended, and isn't short
abbrev pub is_written : WriterView → Bool
is_written writer = writer.ended && not (is_short writer)
