-- What contracts see of a source in memory, and what it answers.
use Rattle.std.specs.Prelude.{◌≡◌, refl, ℕ, ◌+◌, ◌-◌, ◌≤◌, min, List, length, take, Bool, false, IsTrue, Some, nat_lt, if◌then◌else◌}
use Rattle.std.proofs.Common.{◌∙◌}
use Rattle.h1_link.specs.MemPlan.{faults_due}
use Rattle.h1_link.specs.SourceState.{SourceState, after_source_read}
use Rattle.h1_link.specs.declared.source.SourceStep.{SourceStep}
use Rattle.h1_link.specs.declared.source.SourceStep.TheVariants.{Got, End, Failed}

pub record MemSourceState : Type 0 where
  -- what every source has
  pub state : SourceState
  -- all its bytes, and how many of them were given
  pub bytes : List ℕ
  pub next : ℕ
  -- the next read fails
  pub fault : Bool

abbrev pub mem_source_of : List ℕ → ℕ → Bool → Bool → ℕ → MemSourceState
mem_source_of bytes next ended fault faults = record {
  state = record { given = Some (take next bytes); ended = ended; faults = faults };
  bytes = bytes;
  next = next;
  fault = fault;
}

-- a source of which nothing was read
abbrev pub new_mem_source : List ℕ → MemSourceState
new_mem_source bytes = mem_source_of bytes 0 false false 0

-- the bytes given are the first ones, and at the end all were given
pub record SourceRule (source : MemSourceState) : Type 0 where
  pub within : source.next ≤ length source.bytes
  pub given : source.state.given ≡ Some (take source.next source.bytes)
  pub ended : IsTrue source.state.ended → source.state.given ≡ Some source.bytes

-- a planned fault comes first; else as many bytes as are left and fit, then the end
abbrev pub source_answer : MemSourceState → ℕ → SourceStep
source_answer source room =
    if source.fault then Failed
    else if nat_lt source.next (length source.bytes)
    then Got (min room (length source.bytes - source.next))
    else End

abbrev pub got_count : SourceStep → ℕ
got_count (Got n) = n
got_count End = 0
got_count Failed = 0

abbrev pub mem_after_source_read : MemSourceState → List ℕ → SourceStep → MemSourceState
mem_after_source_read source buffer answer = record source {
  state = after_source_read source.state buffer answer;
  next = source.next + got_count answer;
  fault = false;
}

-- between two moments the source's owner set nothing
pub record SameSource (old new : MemSourceState) : Type 0 where
  pub bytes : new.bytes ≡ old.bytes
  pub faults : faults_due new.fault new.state.faults ≡ faults_due old.fault old.state.faults

pub source_itself : (source : MemSourceState) → SameSource source source
source_itself source = record { bytes = refl; faults = refl }

pub source_on : (a b c : MemSourceState) → SameSource a b → SameSource b c → SameSource a c
source_on a b c first second = record {
  bytes = second.bytes ∙ first.bytes;
  faults = second.faults ∙ first.faults;
}
