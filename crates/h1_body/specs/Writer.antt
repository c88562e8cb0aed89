-- What a writer of bodies gives (RFC 9112, sections 6 and 7.1).
use Rattle.std.specs.Prelude.{ℕ, ◌+◌, ◌-◌, ◌^◌, ◌||◌, nat_lt, nat_le, min, List, [], ◌++◌, length, take, Bool, true, false, Option, Some, None, if◌then◌else◌}
use Rattle.h1_body.specs.Written.{chunk_bytes, last_chunk}
use Rattle.h1_body.specs.declared.framing.Framing.{Framing}
use Rattle.h1_body.specs.declared.framing.Framing.TheVariants.{Counted, Chunked, UntilClose}

-- the framing of the body, if it has begun; how many bytes of payload were taken; whether it was
-- ended
pub record WriterView : Type 0 where
  pub framing : Option Framing
  pub written : ℕ
  pub ended : Bool

abbrev pub begun : Framing → WriterView
begun framing = record { framing = Some framing; written = 0; ended = false }

-- what the body still takes of a piece of payload
abbrev pub taken_by : Option Framing → ℕ → List ℕ → List ℕ
taken_by None written payload = []
taken_by (Some (Counted n)) written payload = take (n - written) payload
taken_by (Some Chunked) written payload = payload
taken_by (Some UntilClose) written payload = payload

abbrev pub taken : WriterView → List ℕ → List ℕ
taken view payload = if view.ended then [] else taken_by view.framing view.written payload

-- how payload of a framing is written
abbrev pub framed : Option Framing → List ℕ → List ℕ
framed None payload = payload
framed (Some (Counted n)) payload = payload
framed (Some Chunked) payload = chunk_bytes payload
framed (Some UntilClose) payload = payload

abbrev pub piece_bytes : WriterView → List ℕ → List ℕ
piece_bytes view payload = framed view.framing (taken view payload)

-- the count stands still at the largest number
abbrev pub after_piece : WriterView → List ℕ → WriterView
after_piece view payload =
    record view { written = min (view.written + length (taken view payload)) (2 ^ 64 - 1) }

abbrev pub end_of : Option Framing → List ℕ
end_of None = []
end_of (Some (Counted n)) = []
end_of (Some Chunked) = last_chunk
end_of (Some UntilClose) = []

abbrev pub end_bytes : WriterView → List ℕ
end_bytes view = if view.ended then [] else end_of view.framing

abbrev pub lacks : Option Framing → ℕ → Bool
lacks None written = false
lacks (Some (Counted n)) written = nat_lt written n
lacks (Some Chunked) written = false
lacks (Some UntilClose) written = false

-- less payload was taken than the framing states
abbrev pub is_short : WriterView → Bool
is_short view = lacks view.framing view.written

abbrev pub is_full : Option Framing → ℕ → Bool
is_full None written = false
is_full (Some (Counted n)) written = nat_le n written
is_full (Some Chunked) written = false
is_full (Some UntilClose) written = false

-- the body was ended, or has all payload that its framing states
abbrev pub is_finished : WriterView → Bool
is_finished view = view.ended || is_full view.framing view.written

-- the body is ended by the end of the link
abbrev pub until_close : Option Framing → Bool
until_close None = false
until_close (Some (Counted n)) = false
until_close (Some Chunked) = false
until_close (Some UntilClose) = true

-- all bytes of a body whose payload is one piece
abbrev pub body_bytes : Framing → List ℕ → List ℕ
body_bytes (Counted n) payload = take n payload
body_bytes Chunked payload = chunk_bytes payload ++ last_chunk
body_bytes UntilClose payload = payload
