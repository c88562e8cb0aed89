use Rattle.std.proofs.Common.{◌≤◌, ◌+◌, ◌-◌, length}
use Rattle.h1_words.specs.declared.script.TheConstants.{MAX_SCRIPT}
use Rattle.h1_fetch.specs.Input.{Gave}
use Rattle.h1_fetch.proofs.input.read_script.Given as goal

abbrev pub invariant-loop-buffer : goal.invariant-loop-buffer
invariant-loop-buffer g l = record {
  most : length l.bytes.items ≤ MAX_SCRIPT + 1;
  gave : Gave (g.S.Source.state l.fn.source) (g.S.Source.state l.source) l.bytes.items;
}

abbrev pub decreases-loop-buffer : goal.decreases-loop-buffer
decreases-loop-buffer g l = MAX_SCRIPT + 1 - length l.bytes.items
