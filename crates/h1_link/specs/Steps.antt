-- What each call of a link leaves, by its answer. What an equation doesn't name stays.
use Rattle.std.specs.Prelude.{ℕ, ◌≤◌, ◌==◌, List, take, length, true, max, if◌then◌else◌}
use Rattle.std.specs.Io.KnownBytes.{append_known}
use Rattle.h1_link.specs.Counts.{raised}
use Rattle.h1_link.specs.LinkState.{LinkState}
use Rattle.h1_link.specs.declared.link.ReadStep.{ReadStep}
use Rattle.h1_link.specs.declared.link.ReadStep.TheVariants as read
use Rattle.h1_link.specs.declared.link.WriteStep.{WriteStep}
use Rattle.h1_link.specs.declared.link.WriteStep.TheVariants as write
use Rattle.h1_link.specs.declared.link.FlushStep.{FlushStep}
use Rattle.h1_link.specs.declared.link.FlushStep.TheVariants as flush

-- a read gives at least one byte, and no more than the buffer holds
abbrev pub FitsRead : List ℕ → ReadStep → Type 0
FitsRead buffer (read.Got n) = (1 ≤ n) × (n ≤ length buffer)
FitsRead buffer read.End = Unit {0}
FitsRead buffer read.NotReady = Unit {0}
FitsRead buffer read.Failed = Unit {0}
FitsRead buffer read.NoMemory = Unit {0}

-- a write takes no more than the piece
abbrev pub FitsWrite : List ℕ → WriteStep → Type 0
FitsWrite piece (write.Took n) = n ≤ length piece
FitsWrite piece write.NotReady = Unit {0}
FitsWrite piece write.Failed = Unit {0}
FitsWrite piece write.NoMemory = Unit {0}

-- a read into this buffer
abbrev pub after_read : LinkState → List ℕ → ReadStep → LinkState
after_read s buffer (read.Got n) = record s {
  given = append_known s.given (take n buffer);
  bytes_in = raised s.bytes_in n;
  moves = raised s.moves 1;
}
after_read s buffer read.End = record s { ended = true; others = raised s.others 1 }
after_read s buffer read.NotReady = record s {
  read_waits = raised s.read_waits 1;
  others = raised s.others 1;
}
after_read s buffer read.Failed = record s {
  read_faults = raised s.read_faults 1;
  others = raised s.others 1;
}
after_read s buffer read.NoMemory = record s { others = raised s.others 1 }

-- a write of which nothing was taken: a fault, but where there was nothing to take
abbrev pub after_no_byte : LinkState → List ℕ → LinkState
after_no_byte s piece = record s {
  write_faults = (if length piece == 0 then s.write_faults else raised s.write_faults 1);
  others = raised s.others 1;
}

-- a write of which these bytes, one at least, were taken
abbrev pub after_bytes : LinkState → List ℕ → ℕ → LinkState
after_bytes s bytes n = record s {
  written = append_known s.written bytes;
  bytes_out = raised s.bytes_out n;
  moves = raised s.moves 1;
}

-- a write of this piece
abbrev pub after_write : LinkState → List ℕ → WriteStep → LinkState
after_write s piece (write.Took n) =
    if n == 0 then after_no_byte s piece else after_bytes s (take n piece) n
after_write s piece write.NotReady = record s {
  write_waits = raised s.write_waits 1;
  others = raised s.others 1;
}
after_write s piece write.Failed = record s {
  write_faults = raised s.write_faults 1;
  others = raised s.others 1;
}
after_write s piece write.NoMemory = record s { others = raised s.others 1 }

-- a flush
abbrev pub after_flush : LinkState → FlushStep → LinkState
after_flush s flush.Done = record s {
  flushed = max s.flushed s.bytes_out;
  others = raised s.others 1;
}
after_flush s flush.NotReady = record s {
  write_waits = raised s.write_waits 1;
  others = raised s.others 1;
}
after_flush s flush.Failed = record s {
  write_faults = raised s.write_faults 1;
  others = raised s.others 1;
}

-- a shutdown, the only call that shuts the link: what was flushed before it can reach the peer
abbrev pub after_shutdown : LinkState → LinkState
after_shutdown s = record s { shut = true; shut_at = s.flushed; others = raised s.others 1 }
