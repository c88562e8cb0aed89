-- What one call moved over its link: bytes that were read, bytes that were written, and how many
-- link calls moved a byte.
use Rattle.std.specs.Prelude.{◌≡◌, ℕ, ◌+◌, ◌-◌, ◌≤◌, List, [], ◌++◌, length}
use Rattle.h1_transfer.specs.Words.{append_known, LinkState, Later}
use Rattle.h1_link.specs.Counts.{RoseBy}

pub record Moved (before now : LinkState) (read wrote : List ℕ) (spent : ℕ) : Type 0 where
  pub given : now.given ≡ append_known before.given read
  pub written : now.written ≡ append_known before.written wrote
  -- each of the calls that are counted moved at least one byte, and no other call moved one
  pub rose : RoseBy spent before.moves now.moves
  pub most : now.moves ≤ before.moves + spent
  pub enough : spent ≤ length read + length wrote
  pub free : spent ≡ 0 → (read ≡ []) × (wrote ≡ [])
  pub out : RoseBy (length wrote) before.bytes_out now.bytes_out
  pub later : Later before now

-- a call that only read
pub record Received (before now : LinkState) (old new : List ℕ) (budget left : ℕ) : Type 0 where
  pub piece : List ℕ
  pub moved : Moved before now piece [] (budget - left)
  pub bytes : new ≡ old ++ piece
  pub within : left ≤ budget
  pub flushed : now.flushed ≡ before.flushed

-- a call that only wrote: what was owed was written in front
pub record Sent (before now : LinkState) (old new : List ℕ) (budget left : ℕ) : Type 0 where
  pub piece : List ℕ
  pub moved : Moved before now [] piece (budget - left)
  pub bytes : old ≡ piece ++ new
  pub within : left ≤ budget
  pub unread : now.read_waits ≡ before.read_waits
