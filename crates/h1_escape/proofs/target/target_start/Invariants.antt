use Rattle.std.proofs.Common.{◌≡◌, ◌-◌, ◌≤◌, length, drop}
use Rattle.h1_escape.specs.Target.{start_from, target_start}
use Rattle.h1_escape.proofs.target.target_start.Given as goal

abbrev pub invariant-loop-at : goal.invariant-loop-at
invariant-loop-at l = record {
  within : l.at ≤ length l.head;
  same : start_from l.at (drop l.at l.head) ≡ target_start l.head;
}

abbrev pub decreases-loop-at : goal.decreases-loop-at
decreases-loop-at l = length l.initial.head - l.at
