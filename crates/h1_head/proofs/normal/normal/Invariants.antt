use Rattle.std.proofs.Common.{◌≡◌, ◌++◌, length}
use Rattle.h1_head.specs.Normal.{normal}
use Rattle.h1_head.proofs.normal.normal.Given as goal

abbrev pub invariant-lines : goal.invariant-lines
invariant-lines l = l.out.items ++ normal l.left ≡ normal l.head

abbrev pub decreases-lines : goal.decreases-lines
decreases-lines l = length l.left
