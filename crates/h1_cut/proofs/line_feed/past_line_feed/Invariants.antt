use Rattle.std.proofs.Common.{◌≡◌, ◌+◌, ◌-◌, ◌≤◌, length}
use Rattle.h1_cut.specs.Text.{IsTextTo}
use Rattle.h1_cut.proofs.line_feed.past_line_feed.Given as goal

abbrev pub invariant-loop-at : goal.invariant-loop-at
invariant-loop-at g l = record {
  text : IsTextTo l.bytes l.from l.at;
  order : l.from ≤ l.at;
  within : l.at ≤ length l.bytes;
  steps : l.steps + l.from ≡ l.fn.steps + l.at;
}

abbrev pub decreases-loop-at : goal.decreases-loop-at
decreases-loop-at g l = length l.bytes - l.at

abbrev pub invariant-loop-at-2 : goal.invariant-loop-at-2
invariant-loop-at-2 g l = record {
  text : IsTextTo l.bytes l.from l.at;
  order : l.from ≤ l.at;
  within : l.at ≤ length l.bytes;
  steps : l.steps + l.from ≡ l.fn.steps + l.at;
}

abbrev pub decreases-loop-at-2 : goal.decreases-loop-at-2
decreases-loop-at-2 g l = length l.bytes - l.at
