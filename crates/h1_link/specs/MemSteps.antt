-- What a link in memory answers, and what each of its calls leaves.
use Rattle.std.specs.Prelude.{ℕ, ◌-◌, min, List, length, false, nat_lt, Option, Some, None, is_some, if◌then◌else◌}
use Rattle.h1_link.specs.Counts.{raised}
use Rattle.h1_link.specs.Steps.{after_read, after_write, after_flush}
use Rattle.h1_link.specs.Gate.{room_for, gate_after}
use Rattle.h1_link.specs.MemState.{MemState}
use Rattle.h1_link.specs.declared.memory.gate.Gate.{Gate}
use Rattle.h1_link.specs.declared.memory.gate.Gate.TheVariants.{Open, Room, Blocked}
use Rattle.h1_link.specs.declared.link.ReadStep.{ReadStep}
use Rattle.h1_link.specs.declared.link.ReadStep.TheVariants as read
use Rattle.h1_link.specs.declared.link.WriteStep.{WriteStep}
use Rattle.h1_link.specs.declared.link.WriteStep.TheVariants as write
use Rattle.h1_link.specs.declared.link.FlushStep.{FlushStep}
use Rattle.h1_link.specs.declared.link.FlushStep.TheVariants as flush

-- a planned fault comes first; else as many bytes as are ahead and fit; then the end, where it
-- was said
abbrev pub read_answer : MemState → ℕ → ReadStep
read_answer link room =
    if link.read_fault then read.Failed
    else if nat_lt link.state.bytes_in (length link.put)
    then read.Got (min room (length link.put - link.state.bytes_in))
    else if is_some link.end_at then read.End else read.NotReady

abbrev pub took : Option ℕ → WriteStep
took None = write.NotReady
took (Some n) = write.Took n

-- a planned fault comes first; else what the gate lets through
abbrev pub write_answer : MemState → ℕ → WriteStep
write_answer link len = if link.write_fault then write.Failed else took (room_for link.gate len)

abbrev pub flush_at : Gate → FlushStep
flush_at Open = flush.Done
flush_at (Room left) = flush.Done
flush_at Blocked = flush.NotReady

-- a flush is done but where the link is blocked
abbrev pub flush_answer : MemState → FlushStep
flush_answer link = flush_at link.gate

abbrev pub mem_after_read : MemState → List ℕ → ReadStep → MemState
mem_after_read link buffer answer = record link {
  state = after_read link.state buffer answer;
  read_fault = false;
}

abbrev pub taken_count : WriteStep → ℕ
taken_count (write.Took n) = n
taken_count write.NotReady = 0
taken_count write.Failed = 0
taken_count write.NoMemory = 0

abbrev pub mem_after_write : MemState → List ℕ → WriteStep → MemState
mem_after_write link piece answer = record link {
  state = after_write link.state piece answer;
  write_fault = false;
  gate = gate_after link.gate (taken_count answer);
}

-- the flushes that weren't ready once a flush answered this
abbrev pub flush_waits_after : ℕ → FlushStep → ℕ
flush_waits_after count flush.NotReady = raised count 1
flush_waits_after count _ = count

abbrev pub mem_after_flush : MemState → FlushStep → MemState
mem_after_flush link answer = record link {
  state = after_flush link.state answer;
  flush_waits = flush_waits_after link.flush_waits answer;
}
