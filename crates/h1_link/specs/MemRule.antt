-- What holds of every link in memory: how its counts and bytes stand to what its owner set.
use Rattle.std.specs.Prelude.{◌≡◌, ℕ, ◌≤◌, ◌<◌, List, length, take, IsTrue, IfSome, Option, Some, None}
use Rattle.h1_link.specs.Gate.{IsClosed}
use Rattle.h1_link.specs.MemState.{MemState}

-- the end was said, and at least what had been put ahead then was given
abbrev pub EndReached : Option ℕ → ℕ → Type 0
EndReached None given = ⊥
EndReached (Some at) given = at ≤ given

-- what holds of every link in memory
pub record Rule (link : MemState) : Type 0 where
  -- the bytes given are the first of those put ahead, and both sides' bytes are counted exactly
  pub within : link.state.bytes_in ≤ length link.put
  pub given : link.state.given ≡ Some (take link.state.bytes_in link.put)
  pub written : (bytes : List ℕ) × (link.state.written ≡ Some bytes)
      × (length bytes ≡ link.state.bytes_out)
  pub flushed : link.state.flushed ≤ link.state.bytes_out
  -- the end was said at a moment before this one
  pub said : IfSome link.end_at (λ at. at ≤ length link.put)
  -- the end comes only where it was said, after what had been put ahead
  pub ended : IsTrue link.state.ended → EndReached link.end_at link.state.bytes_in
  -- what was noted of the counts was noted before
  pub noted_reads : link.reads_noted ≤ link.state.read_waits
  pub noted_writes : link.writes_noted ≤ link.state.write_waits
  -- since bytes were last put ahead or the end was said, a read waited only where all that was put
  -- ahead was given and no end was said
  pub waits : link.reads_noted < link.state.read_waits
      → (link.state.bytes_in ≡ length link.put) × (link.end_at ≡ None)
  -- since the gate was last set, a write or a flush waited only where the gate was closed
  pub stalls : link.writes_noted < link.state.write_waits → IsClosed link.gate
