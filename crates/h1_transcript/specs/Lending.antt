-- How a transcript lends the exchange that goes on.
use Rattle.std.specs.Borrow.{Fml, Lends, MutBor}
use Rattle.h1_transcript.specs.contracts.entry.Entry as entry
use Rattle.h1_transcript.specs.contracts.transcript.Transcript as transcript
use Rattle.h1_transcript.specs.Entry.{Entry}
use Rattle.h1_transcript.specs.Entries.{TranscriptView, with_last}

-- the exchange that goes on becomes what is left behind the reference, and the others stay
abbrev pub LendsLast : MutBor TranscriptView → MutBor Entry → Fml
LendsLast lender lent = Lends transcript.the_row entry.the_row lender lent (with_last lender.now)
