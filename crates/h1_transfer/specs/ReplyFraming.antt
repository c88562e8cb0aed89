-- What the framing of a message's body asks of its head and its pieces (RFC 9112, section 6.3).
use Rattle.std.specs.Prelude.{Bool, true, false, ◌&&◌, ◌==◌, not, is_some, Option, Some, None}
use Rattle.h1_body.specs.Writer.{WriterView, is_finished}
use Rattle.h1_body.specs.declared.framing.Framing.{Framing}
use Rattle.h1_transfer.specs.Words.{Counted}
use Rattle.h1_body.specs.declared.framing.Framing.TheVariants.{Chunked, UntilClose}

-- a head is flushed where it states no length, or no body follows
abbrev pub flushes_head : Option Framing → Bool
flushes_head None = false
flushes_head (Some (Counted n)) = n == 0
flushes_head (Some Chunked) = true
flushes_head (Some UntilClose) = true

-- a body was begun, and not ended
abbrev pub is_begun : WriterView → Bool
is_begun writer = is_some writer.framing && not writer.ended

-- a body was begun, and takes more payload
abbrev pub admits : WriterView → Bool
admits writer = is_some writer.framing && not (is_finished writer)
