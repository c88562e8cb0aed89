use Rattle.std.proofs.Common.{◌≡◌, ◌==◌, false, All, take}
use Rattle.h1_head.proofs.line.around.Given as goal

abbrev pub invariant-loop-at : goal.invariant-loop-at
invariant-loop-at l = All (λ b. (b == l.byte) ≡ false) (take l.at l.bytes)
