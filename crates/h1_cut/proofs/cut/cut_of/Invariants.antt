use Rattle.std.proofs.Common.{◌≡◌, ◌-◌, length, drop}
use Rattle.h1_cut.specs.Cut.{cut, cut_from}
use Rattle.h1_cut.proofs.cut.cut_of.Given as goal

abbrev pub invariant-loop-at : goal.invariant-loop-at
invariant-loop-at l = cut_from l.at l.begun l.line (drop l.at l.bytes) ≡ cut l.bytes

abbrev pub decreases-loop-at : goal.decreases-loop-at
decreases-loop-at l = length l.initial.bytes - l.at
