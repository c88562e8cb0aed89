-- What a source of bytes gave, and what each of its reads leaves.
use Rattle.std.specs.Prelude.{ℕ, ◌≤◌, ◌==◌, List, take, length, Bool, true, IsTrue, Option, if◌then◌else◌}
use Rattle.std.specs.Io.KnownBytes.{append_known}
use Rattle.h1_link.specs.Counts.{raised}
use Rattle.h1_link.specs.Later.{Grew}
use Rattle.h1_link.specs.declared.source.SourceStep.{SourceStep}
use Rattle.h1_link.specs.declared.source.SourceStep.TheVariants.{Got, End, Failed}

pub record SourceState : Type 0 where
  -- the bytes that its reads gave, where the source tells them
  pub given : Option (List ℕ)
  -- a read met the end
  pub ended : Bool
  -- the reads that failed
  pub faults : ℕ

-- a read gives no more than the buffer holds
abbrev pub FitsBuffer : List ℕ → SourceStep → Type 0
FitsBuffer buffer (Got n) = n ≤ length buffer
FitsBuffer buffer End = Unit {0}
FitsBuffer buffer Failed = Unit {0}

-- a read into this buffer; no byte is an end
abbrev pub after_source_read : SourceState → List ℕ → SourceStep → SourceState
after_source_read s buffer (Got n) =
    if n == 0
    then record s { ended = true }
    else record s { given = append_known s.given (take n buffer) }
after_source_read s buffer End = record s { ended = true }
after_source_read s buffer Failed = record s { faults = raised s.faults 1 }

-- bytes are only added, and an end stays
pub record LaterSource (old new : SourceState) : Type 0 where
  pub given : Grew old.given new.given
  pub ended : IsTrue old.ended → IsTrue new.ended
  pub faults : old.faults ≤ new.faults
