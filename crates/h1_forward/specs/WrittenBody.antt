-- The bytes of a body that is handed to a writer in pieces (RFC 9112, sections 6 and 7.1).
use Rattle.std.specs.Prelude.{ℕ, ◌≤◌, List, [], ◌∷◌, ◌++◌, length}
use Rattle.std.specs.List.{flat_map, AllByRecursion}
use Rattle.h1_body.specs.Writer.{WriterView, after_piece, end_bytes, piece_bytes}
use Rattle.h1_body.specs.declared.chunking.TheConstants.{CHUNK_LIMIT}

-- what a writer gives for these pieces, one behind another, and for the end
abbrev pub body_from : WriterView → List (List ℕ) → List ℕ
body_from writer [] = end_bytes writer
body_from writer (piece ∷ pieces) =
    piece_bytes writer piece ++ body_from (after_piece writer piece) pieces

-- the payload of these pieces
abbrev pub payload_of : List (List ℕ) → List ℕ
payload_of pieces = flat_map (λ piece. piece) pieces

-- each piece is at most the largest chunk
abbrev pub AreChunks : List (List ℕ) → Type 0
AreChunks pieces = AllByRecursion (λ piece. length piece ≤ CHUNK_LIMIT) pieces
