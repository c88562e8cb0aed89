use Rattle.std.proofs.Common.{◌≡◌, ◌+◌, ◌≤◌, length}
use Rattle.std.specs.Option.{IfSome, option_copied}
use Rattle.h1_words.specs.Script.{lines_of, lines_left, reading_behind, first_line}
use Rattle.h1_words.specs.Reader.{reading_of}
use Rattle.h1_words.proofs.script.read_lines.Given as goal

abbrev pub invariant-loop-left : goal.invariant-loop-left
invariant-loop-left l =
    (reading_behind (reading_of l.reader) (lines_left (option_copied l.left))
    ≡ reading_behind first_line (lines_of l.bytes))
    × IfSome l.left (λ rest. l.reader.number + length rest.now ≤ length l.bytes + 1)

abbrev pub decreases-loop-left : goal.decreases-loop-left
decreases-loop-left l = length (lines_left (option_copied l.left))
