-- What a run reads from its source.
use Rattle.std.specs.Prelude.{◌≡◌, ℕ, ◌+◌, ◌<◌, ◌≤◌, ◌⊎◌, List, [], ◌++◌, length, true}
use Rattle.std.specs.Io.KnownBytes.{append_known}
use Rattle.h1_link.specs.Counts.{Rose}
use Rattle.h1_link.specs.SourceState.{SourceState}
use Rattle.h1_words.specs.declared.script.TheConstants.{MAX_SCRIPT}
use Rattle.h1_fetch.specs.declared.input.InputFault.{InputFault}
use Rattle.h1_fetch.specs.declared.input.InputFault.TheVariants as fault
use Rattle.h1_fetch.specs.declared.input.Piece.{Piece}
use Rattle.h1_fetch.specs.declared.input.Piece.TheVariants as piece

-- between two moments the source gave these bytes, and no read of it failed
pub record Gave (before now : SourceState) (bytes : List ℕ) : Type 0 where
  pub given : now.given ≡ append_known before.given bytes
  pub faults : now.faults ≡ before.faults

-- the source was read to its end, or to the first byte beyond the limit of a script
pub record ReadsScript (before now : SourceState) (script : List ℕ) : Type 0 where
  pub gave : Gave before now script
  pub most : length script ≤ MAX_SCRIPT + 1
  pub out : (now.ended ≡ true) ⊎ (MAX_SCRIPT < length script)

-- one read, of at most so many bytes, that didn't fail
abbrev pub ReadsPiece : SourceState → SourceState → List ℕ → List ℕ → ℕ → Piece → Type 0
ReadsPiece before now front bytes most piece.More =
    (more : List ℕ) × (bytes ≡ front ++ more) × Gave before now more × (0 < length more)
    × (length more ≤ most)
ReadsPiece before now front bytes most piece.End =
    (bytes ≡ front) × Gave before now [] × (now.ended ≡ true)

-- why a script isn't read; out of memory has no other cause
abbrev pub InputCause : SourceState → SourceState → InputFault → Type 0
InputCause before now fault.Failed = Rose before.faults now.faults
InputCause before now fault.NoMemory = Unit {0}
