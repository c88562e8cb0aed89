-- What telling of a response, of the links and of a fault comes to.
use Rattle.std.specs.Prelude.{◌≡◌, ◌⊎◌, ℕ, List}
use Rattle.h1_error.specs.declared.error.Error.{Error}
use Rattle.h1_link.specs.Counts.{Rose}
use Rattle.h1_link.specs.SinkState.{SinkState}
use Rattle.h1_fetch.specs.Getting.{no_response_line}
use Rattle.h1_fetch.specs.Output.{Wrote, WriteCause}
use Rattle.h1_asking.specs.declared.fetching.Fault.{Fault}
use Rattle.h1_asking.specs.declared.fetching.Fault.TheVariants as fault
use Rattle.h1_fetch.specs.declared.output.Written.{Written}
use Rattle.h1_fetch.specs.declared.status.Status.{Status}
use Rattle.h1_fetch.specs.declared.status.Status.TheVariants as status

-- why a line isn't written whole
abbrev pub TellCause : SinkState → SinkState → Status → Type 0
TellCause sink sink' status.Sink = Rose sink.faults sink'.faults
TellCause sink sink' status.Memory = Unit {0}
TellCause sink sink' _ = ⊥

-- the last line is written whole, or it is told why not
abbrev pub DoneCause : SinkState → SinkState → List ℕ → Status → Type 0
DoneCause sink sink' line status.Done = Wrote sink sink' line
DoneCause sink sink' line other = TellCause sink sink' other

-- the line of a fault was handed to the messages, and the status is this; or there was no memory for it
abbrev pub ToldFault : SinkState → SinkState → ℕ → Error → Status → Status → Type 0
ToldFault messages messages' number error said result =
    (result ≡ status.Memory)
    ⊎ ((result ≡ said) × (written : Written)
    × WriteCause messages messages' (no_response_line number error) written)

abbrev pub GivesUp : SinkState → SinkState → ℕ → Fault → Status → Type 0
GivesUp messages messages' number fault.Memory result = result ≡ status.Memory
GivesUp messages messages' number (fault.Server error) result =
    ToldFault messages messages' number error status.Server result
GivesUp messages messages' number (fault.Response error) result =
    ToldFault messages messages' number error status.Response result
