-- What the link of a script does in a poll, by the lines before it: between the states before and
-- after the poll.
use Rattle.std.specs.Prelude.{◌≡◌, ◌⊎◌, ℕ, ◌<◌, ◌≤◌, List, length, take, true, false, Some, IsTrue}
use Rattle.h1_link.specs.Gate.{IsBlocked}
use Rattle.h1_link.specs.declared.memory.gate.Gate.{Gate}
use Rattle.h1_link.specs.declared.memory.gate.Gate.TheVariants.{Open, Room, Blocked}
use Rattle.h1_serve.specs.State.{State}

-- the bytes given are the first of those put ahead
pub record GivesAhead (s t : State) : Type 0 where
  pub put : t.put ≡ s.put
  pub said : t.said ≡ s.said
  pub given : t.link.given ≡ Some (take t.link.bytes_in t.put)
  -- the end was met only where it was said, after all that was put ahead
  pub ended : IsTrue t.link.ended → (t.said ≡ true) × (t.link.given ≡ Some t.put)
  -- a read was not ready only where all that was put ahead was given, and no end was said
  pub waits : s.link.read_waits < t.link.read_waits → (t.link.given ≡ Some t.put) × (t.said ≡ false)

-- no more was taken than there is room for
abbrev pub IsWithin : Gate → ℕ → Type 0
IsWithin Open taken = Unit {0}
IsWithin (Room most) taken = taken ≤ most
IsWithin Blocked taken = Unit {0}

-- nothing more is taken
abbrev pub IsUsedUp : Gate → ℕ → Type 0
IsUsedUp Open taken = ⊥
IsUsedUp (Room most) taken = taken ≡ most
IsUsedUp Blocked taken = Unit {0}

-- the bytes written keep to the last `room` or `block` line
pub record TakesWithin (s t : State) : Type 0 where
  pub gate : t.gate ≡ s.gate
  pub counted : (written : List ℕ) × (t.link.written ≡ Some written)
      × (length written ≡ t.link.bytes_out)
  pub within : IsWithin t.gate t.link.bytes_out
  pub blocked : IsBlocked t.gate → t.link.written ≡ s.link.written
  -- a write or a flush was not ready only where the room is used up or the link is blocked, and a
  -- flush only where it is blocked
  pub waits : s.link.write_waits < t.link.write_waits → IsUsedUp t.gate t.link.bytes_out
  pub flush_waits : s.flush_waits < t.flush_waits → IsBlocked t.gate

-- no read gave a byte or met the end
abbrev pub NothingGiven : State → State → Type 0
NothingGiven s t = (t.link.given ≡ s.link.given) × (t.link.ended ≡ s.link.ended)

-- reads and writes fail only as planned, and where a fault is planned no byte goes before it
pub record FailsAsPlanned (s t : State) : Type 0 where
  pub reads_due : t.reads_due ≡ s.reads_due
  pub writes_due : t.writes_due ≡ s.writes_due
  pub reads : t.link.read_faults ≤ t.reads_due
  pub writes : t.link.write_faults ≤ t.writes_due
  pub read_first : s.link.read_faults < s.reads_due
      → NothingGiven s t ⊎ (s.link.read_faults < t.link.read_faults)
  pub write_first : s.link.write_faults < s.writes_due
      → (t.link.written ≡ s.link.written) ⊎ (s.link.write_faults < t.link.write_faults)
