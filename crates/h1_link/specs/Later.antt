-- How a link's state may have moved between two moments.
use Rattle.std.specs.Prelude.{◌≡◌, ℕ, ◌+◌, ◌≤◌, List, Option, IsTrue}
use Rattle.std.specs.Io.KnownBytes.{append_known}
use Rattle.h1_link.specs.LinkState.{LinkState}

-- told bytes stay, and more may follow them; untold bytes stay untold
abbrev pub Grew : Option (List ℕ) → Option (List ℕ) → Type 0
Grew old new = (more : List ℕ) × (new ≡ append_known old more)

-- no count falls
pub record NoCountFalls (old new : LinkState) : Type 0 where
  pub read_faults : old.read_faults ≤ new.read_faults
  pub write_faults : old.write_faults ≤ new.write_faults
  pub read_waits : old.read_waits ≤ new.read_waits
  pub write_waits : old.write_waits ≤ new.write_waits
  pub bytes_in : old.bytes_in ≤ new.bytes_in
  pub bytes_out : old.bytes_out ≤ new.bytes_out
  pub moves : old.moves ≤ new.moves
  pub others : old.others ≤ new.others

-- bytes are only added, no count falls, an end stays, and a link that was shut stays so
pub record Later (old new : LinkState) : Type 0 where
  pub given : Grew old.given new.given
  pub written : Grew old.written new.written
  pub ended : IsTrue old.ended → IsTrue new.ended
  pub flushed : old.flushed ≤ new.flushed
  pub shut : IsTrue old.shut → IsTrue new.shut
  pub counts : NoCountFalls old new

-- no byte moved, nothing was flushed and no end was met; no count falls, and the link may have been
-- shut
pub record KeepsBytes (old new : LinkState) : Type 0 where
  pub given : new.given ≡ old.given
  pub written : new.written ≡ old.written
  pub ended : new.ended ≡ old.ended
  pub flushed : new.flushed ≡ old.flushed
  pub shut : IsTrue old.shut → IsTrue new.shut
  pub counts : NoCountFalls old new

-- one call at most was made: it moved a byte, or it is among the others
pub record CallsOnce (old new : LinkState) : Type 0 where
  pub moves : new.moves ≤ old.moves + 1
  pub others : new.others ≤ old.others + 1
  pub both : new.moves + new.others ≤ old.moves + old.others + 1
