-- What contracts see of a link in memory.
use Rattle.std.specs.Prelude.{ℕ, List, [], take, Bool, false, Option, Some, None, vec_len}
use Rattle.h1_link.specs.LinkState.{LinkState, fresh_state}
use Rattle.h1_link.specs.declared.memory.gate.Gate.{Gate}
use Rattle.h1_link.specs.declared.memory.gate.Gate.TheVariants.{Open}
use Rattle.h1_link.specs.declared.memory.inlet.Inlet.{Inlet}
use Rattle.h1_link.specs.declared.memory.outlet.Outlet.{Outlet}
use Rattle.h1_link.specs.declared.memory.counts.Counts.{Counts}

pub record MemState : Type 0 where
  -- what every link has
  pub state : LinkState
  -- all bytes that were put ahead, the given ones among them
  pub put : List ℕ
  -- the link ends: so many bytes had been put ahead when that was said
  pub end_at : Option ℕ
  -- the count of read waits when bytes were last put ahead or the end was said
  pub reads_noted : ℕ
  -- the next read fails
  pub read_fault : Bool
  -- how much the link takes from here on
  pub gate : Gate
  -- the count of write waits when the gate was last set
  pub writes_noted : ℕ
  -- the next write fails
  pub write_fault : Bool
  -- the flushes that weren't ready
  pub flush_waits : ℕ

abbrev pub link_state_of : Inlet → Outlet → Counts → Bool → LinkState
link_state_of inlet outlet counts shut = record {
  given = Some (take inlet.next inlet.put.items);
  written = Some outlet.written.items;
  ended = inlet.ended;
  read_faults = counts.read_faults;
  write_faults = counts.write_faults;
  read_waits = counts.read_waits;
  write_waits = counts.write_waits;
  bytes_in = inlet.next;
  bytes_out = vec_len outlet.written;
  moves = counts.moves;
  others = counts.others;
  flushed = outlet.flushed;
  shut = shut;
  shut_at = outlet.shut_at;
}

abbrev pub mem_state_of : Inlet → Outlet → Counts → Bool → MemState
mem_state_of inlet outlet counts shut = record {
  state = link_state_of inlet outlet counts shut;
  put = inlet.put.items;
  end_at = inlet.end_at;
  reads_noted = inlet.noted;
  read_fault = inlet.fault;
  gate = outlet.gate;
  writes_noted = outlet.noted;
  write_fault = outlet.fault;
  flush_waits = outlet.unready;
}

-- a link with nothing ahead, nothing written and nothing planned
abbrev pub new_mem_state : MemState
new_mem_state = record {
  state = fresh_state;
  put = [];
  end_at = None;
  reads_noted = 0;
  read_fault = false;
  gate = Open;
  writes_noted = 0;
  write_fault = false;
  flush_waits = 0;
}
