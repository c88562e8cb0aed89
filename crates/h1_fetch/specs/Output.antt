-- What a run writes to its sink.
use Rattle.std.specs.Prelude.{◌≡◌, ℕ, List, ◌∷◌, [], ◌++◌, true, codes}
use Rattle.std.specs.Io.KnownBytes.{append_known}
use Rattle.std.specs.Fmt.{decimal}
use Rattle.h1_link.specs.Counts.{Rose}
use Rattle.h1_link.specs.SinkState.{SinkState}
use Rattle.h1_fetch.specs.declared.output.Written.{Written}
use Rattle.h1_fetch.specs.declared.output.Written.TheVariants as written

-- between two moments the sink took this text, and no call of it failed
pub record Took (before now : SinkState) (text : List ℕ) : Type 0 where
  pub taken : now.taken ≡ append_known before.taken text
  pub faults : now.faults ≡ before.faults

-- between two moments the sink took this text, and all that it took was flushed
pub record Wrote (before now : SinkState) (text : List ℕ) : Type 0 where
  pub took : Took before now text
  pub flushed : now.flushed ≡ true

-- what writing a text comes to; out of memory has no other cause
abbrev pub WriteCause : SinkState → SinkState → List ℕ → Written → Type 0
WriteCause before now text written.Whole = Wrote before now text
WriteCause before now text written.Failed = Rose before.faults now.faults
WriteCause before now text written.NoMemory = Unit {0}

-- what is written where the words are no task
abbrev pub usage_line : List ℕ
usage_line = codes "usage: h1_fetch get PORT PATH COUNT [BODY] | script" ++ (10 ∷ [])

-- what is written where a line of the script is outside of the grammar
abbrev pub fault_line : ℕ → List ℕ
fault_line number = codes "line " ++ decimal number ++ (10 ∷ [])
