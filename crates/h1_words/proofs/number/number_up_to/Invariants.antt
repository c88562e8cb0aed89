use Rattle.std.proofs.Common.{◌≡◌, ◌≤◌, drop, Some}
use Rattle.h1_words.specs.Number.{number_from}
use Rattle.h1_words.proofs.number.number_up_to.Given as goal

abbrev pub invariant-loop-byte : goal.invariant-loop-byte
invariant-loop-byte l =
    (number_from l.most (Some l.number) (drop l.byte-index l.digits)
    ≡ number_from l.most (Some 0) l.digits)
    × (l.number ≤ l.most)
