use Rattle.std.proofs.Common.{◌≡◌, ◌-◌, ◌≤◌, length, drop, IfSome}
use Rattle.h1_escape.specs.Target.{last_mark, target_len}
use Rattle.h1_escape.proofs.target.target_len.Given as goal

abbrev pub invariant-loop-at : goal.invariant-loop-at
invariant-loop-at l = record {
  within : l.at ≤ length l.line;
  found_within : IfSome l.found (λ len. len ≤ length l.line);
  same : last_mark l.found l.at (drop l.at l.line) ≡ target_len l.line;
}

abbrev pub decreases-loop-at : goal.decreases-loop-at
decreases-loop-at l = length l.initial.line - l.at
