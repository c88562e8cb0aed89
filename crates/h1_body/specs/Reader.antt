-- What bytes make of a body (RFC 9112, section 6), and what a reader makes of the bytes that
-- follow.
use Rattle.std.specs.Prelude.{ℕ, nat_le, List, [], length, take, Bool, true, false, if◌then◌else◌}
use Rattle.h1_body.specs.Body.{Body, whole, unfinished}
use Rattle.h1_body.specs.Chunks.{chunked}
use Rattle.h1_body.specs.declared.framing.Framing.{Framing}
use Rattle.h1_body.specs.declared.framing.Framing.TheVariants as framing
use Rattle.h1_body.specs.declared.chunking.Chunking.TheVariants.{Start}
use Rattle.h1_body.specs.declared.reader.Reading.{Reading}
use Rattle.h1_body.specs.declared.reader.Reading.TheVariants as reading
use Rattle.h1_body.specs.declared.reader.BodyReader.{BodyReader}

-- the first n bytes, once they are there
abbrev pub counted : ℕ → List ℕ → Body
counted n bytes = if nat_le n (length bytes) then whole (take n bytes) n else unfinished bytes

-- what bytes make of a body of this framing while the link goes on
abbrev pub body : Framing → List ℕ → Body
body (framing.Counted n) bytes = counted n bytes
body framing.Chunked bytes = chunked Start bytes
body framing.UntilClose bytes = unfinished bytes

-- what they make of it where the link ended after them
abbrev pub body_at_end : Framing → List ℕ → Body
body_at_end (framing.Counted n) bytes = counted n bytes
body_at_end framing.Chunked bytes = chunked Start bytes
body_at_end framing.UntilClose bytes = whole bytes (length bytes)

abbrev pub is_until_close : Framing → Bool
is_until_close (framing.Counted n) = false
is_until_close framing.Chunked = false
is_until_close framing.UntilClose = true

abbrev pub read_as : Reading → List ℕ → Body
read_as (reading.Counted left) bytes = counted left bytes
read_as (reading.Chunked place) bytes = chunked place bytes
read_as reading.UntilClose bytes = unfinished bytes
read_as reading.Ended bytes = whole [] 0

abbrev pub is_closing : Reading → Bool
is_closing (reading.Counted left) = false
is_closing (reading.Chunked place) = false
is_closing reading.UntilClose = true
is_closing reading.Ended = false

-- what a reader makes of the bytes that follow
abbrev pub reads : BodyReader → List ℕ → Body
reads reader bytes = read_as reader.reading bytes

-- the end of the link is the end of the body
abbrev pub closes_with_link : BodyReader → Bool
closes_with_link reader = is_closing reader.reading
