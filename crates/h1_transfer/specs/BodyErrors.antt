-- What an error of a message's body says of the body (RFC 9112, sections 6 and 8).
use Rattle.h1_transfer.specs.Words.{ErrorType}
use Rattle.h1_error.specs.declared.error.ErrorType.TheVariants as kind

-- The body is broken, its link ended, failed or waited too long inside it, or it goes on past the
-- limit of its payload, or memory ran out.
abbrev pub SaysOfBody : Type 0 → Type 0 → Type 0 → Type 0 → Type 0 → Type 0 → ErrorType → Type 0
SaysOfBody broken cut failed late large starved kind.InvalidBody = broken
SaysOfBody broken cut failed late large starved kind.ConnectionClosed = cut
SaysOfBody broken cut failed late large starved kind.ReadError = failed
SaysOfBody broken cut failed late large starved kind.ReadTimedout = late
SaysOfBody broken cut failed late large starved kind.ContentTooLarge = large
SaysOfBody broken cut failed late large starved kind.NoMemory = starved
SaysOfBody broken cut failed late large starved _ = ⊥
