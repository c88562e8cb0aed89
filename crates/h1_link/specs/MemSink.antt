-- What contracts see of a sink in memory.
use Rattle.std.specs.Prelude.{ℕ, List, [], Bool, true, false, Some, if◌then◌else◌}
use Rattle.h1_link.specs.SinkState.{SinkState}
use Rattle.h1_link.specs.declared.sink.SinkStep.{SinkStep}
use Rattle.h1_link.specs.declared.sink.SinkStep.TheVariants.{Took, Failed}

pub record MemSinkState : Type 0 where
  -- what every sink has
  pub state : SinkState
  -- the next write or flush fails
  pub fault : Bool

abbrev pub mem_sink_of : List ℕ → Bool → ℕ → Bool → MemSinkState
mem_sink_of written flushed faults fault = record {
  state = record { taken = Some written; flushed = flushed; faults = faults };
  fault = fault;
}

-- a sink that took nothing
abbrev pub new_mem_sink : MemSinkState
new_mem_sink = mem_sink_of [] true 0 false

-- a planned fault comes first; else a piece of that length is taken whole
abbrev pub sink_answer : MemSinkState → ℕ → SinkStep
sink_answer sink len = if sink.fault then Failed else Took len
