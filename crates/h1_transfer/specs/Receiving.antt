-- What one read of the link does to the received bytes.
use Rattle.std.specs.Prelude.{◌≡◌, ℕ, ◌+◌, ◌<◌, ◌≤◌, List, [], ◌++◌, length, true}
use Rattle.h1_transfer.specs.Words.{LinkState, Rose, Filled}
use Rattle.h1_transfer.specs.Moved.{Moved}
use Rattle.h1_transfer.specs.declared.receiving.Filled.TheVariants as f

-- the count of moving calls that a read takes from the budget
abbrev pub cost : Filled → ℕ
cost f.Got = 1
cost f.End = 0
cost f.NotReady = 0
cost f.Failed = 0
cost f.NoMemory = 0

abbrev pub FillCause : LinkState → LinkState → List ℕ → Filled → Type 0
FillCause before now piece f.Got = (0 < length piece) × (now.read_waits ≡ before.read_waits)
    × (now.ended ≡ before.ended)
FillCause before now piece f.End =
    (piece ≡ []) × (now.ended ≡ true) × (now.read_waits ≡ before.read_waits)
FillCause before now piece f.NotReady = (piece ≡ []) × Rose before.read_waits now.read_waits
FillCause before now piece f.Failed = (piece ≡ []) × Rose before.read_faults now.read_faults
    × (now.read_waits ≡ before.read_waits)
FillCause before now piece f.NoMemory = (piece ≡ []) × (now.read_waits ≡ before.read_waits)
    × (now.ended ≡ before.ended)

pub record FillsBy (before now : LinkState) (old new : List ℕ) (filled : Filled) : Type 0 where
  pub piece : List ℕ
  pub moved : Moved before now piece [] (cost filled)
  pub bytes : new ≡ old ++ piece
  pub flushed : now.flushed ≡ before.flushed
  -- it waited at most once
  pub few : now.read_waits ≤ before.read_waits + 1
  pub cause : FillCause before now piece filled
