-- What a sink of bytes took, and what each of its calls leaves.
use Rattle.std.specs.Prelude.{ℕ, ◌≤◌, ◌==◌, List, take, length, Bool, true, false, Option, if◌then◌else◌}
use Rattle.std.specs.Io.KnownBytes.{append_known}
use Rattle.h1_link.specs.Counts.{raised}
use Rattle.h1_link.specs.Later.{Grew}
use Rattle.h1_link.specs.declared.sink.SinkStep.{SinkStep}
use Rattle.h1_link.specs.declared.sink.SinkStep.TheVariants.{Took, Failed, NoMemory}

pub record SinkState : Type 0 where
  -- the bytes that its writes took, where the sink tells them
  pub taken : Option (List ℕ)
  -- all that was taken was flushed: a flush was done since a write last took a byte, or none did
  pub flushed : Bool
  -- the writes and flushes that failed
  pub faults : ℕ

-- a write takes no more than the piece
abbrev pub FitsPiece : List ℕ → SinkStep → Type 0
FitsPiece piece (Took n) = n ≤ length piece
FitsPiece piece Failed = Unit {0}
FitsPiece piece NoMemory = Unit {0}

-- a write of this piece; to take nothing of a piece that has bytes is a fault
abbrev pub after_sink_write : SinkState → List ℕ → SinkStep → SinkState
after_sink_write s piece (Took n) =
    if n == 0
    then record s { faults = (if length piece == 0 then s.faults else raised s.faults 1) }
    else record s { taken = append_known s.taken (take n piece); flushed = false }
after_sink_write s piece Failed = record s { faults = raised s.faults 1 }
after_sink_write s piece NoMemory = s

-- a flush, which says whether it was done
abbrev pub after_sink_flush : SinkState → Bool → SinkState
after_sink_flush s true = record s { flushed = true }
after_sink_flush s false = record s { faults = raised s.faults 1 }

-- bytes are only added
pub record LaterSink (old new : SinkState) : Type 0 where
  pub taken : Grew old.taken new.taken
  pub faults : old.faults ≤ new.faults
