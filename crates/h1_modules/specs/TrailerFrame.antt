-- Trailers as the last frame of a gRPC-web body (gRPC's PROTOCOL-WEB.md, "Protocol differences vs
-- gRPC over HTTP2").
use Rattle.std.specs.Prelude.{ℕ, List, ◌∷◌, [], ◌++◌, map, length, codes}
use Rattle.std.specs.Char.{to_ascii_lowercase}
use Rattle.std.specs.Int.{w32, to_be_bytes}
use Rattle.std.specs.List.{flat_map}
use Rattle.h1_fields.specs.Lines.{Line}

-- name ":" value CRLF, the name in lower case
abbrev pub trailer_line : Line → List ℕ
trailer_line line = map to_ascii_lowercase line.0 ++ codes ":" ++ line.1 ++ (13 ∷ 10 ∷ [])

abbrev pub trailer_block : List Line → List ℕ
trailer_block lines = flat_map trailer_line lines

-- 0x80, the block's length in four bytes, and the block
abbrev pub frame : List ℕ → List ℕ
frame block = (128 ∷ []) ++ to_be_bytes w32 (length block) ++ block
