-- The requests of `gen N` as they are read (RFC 9112, sections 3 and 6).
use Rattle.std.specs.Prelude.{ℕ, List, length, map, false}
use Rattle.h1_body.specs.Body.{whole}
use Rattle.h1_body.specs.Writer.{body_bytes}
use Rattle.h1_transcript.specs.Stream.{Message}
use Rattle.h1_generator.specs.Generated.{Asked, asked_from, head_of}

-- a request as it is read: its head, and its payload whole
abbrev pub message_of : Asked → Message
message_of a = record {
  head = head_of a;
  both = false;
  body = whole a.payload (length (body_bytes a.framing a.payload));
}

-- requests 1 to N
abbrev pub messages : ℕ → List Message
messages count = map message_of (asked_from 1 count)
