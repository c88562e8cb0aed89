use Rattle.std.proofs.Common.{◌≡◌, ◌≤◌, ◌++◌, drop, length}
use Rattle.std.specs.Int.Digits.{digits_of}
use Rattle.h1_body.specs.Written.{size_line, size_digits}
use Rattle.h1_body.proofs.size_line.SizeLine.of.Given as goal

abbrev pub invariant-loop-left : goal.invariant-loop-left
invariant-loop-left l = record {
  whole : size_digits l.left ++ drop l.at l.bytes ≡ size_line l.size;
  room : length (digits_of 16 l.left) ≤ l.at;
  in_line : l.at ≤ 16;
  long : length l.bytes ≡ 18;
}

abbrev pub decreases-loop-left : goal.decreases-loop-left
decreases-loop-left l = l.left
