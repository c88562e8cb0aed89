use Rattle.std.proofs.Common.{◌≡◌, length, None}
use Rattle.h1_fields.specs.Lines.{values_of}
use Rattle.h1_fields.specs.Living.{living}
use Rattle.h1_fields.specs.Spans.{AllFit, lines_of}
use Rattle.h1_fields.proofs.iter.ValuesIterIterator.next.Given as goal

abbrev pub invariant-loop-first : goal.invariant-loop-first
invariant-loop-first l =
    AllFit l.self-inside.text.now l.self-inside.left.now
    × (l.self-inside.first ≡ None)
    × (values_of l.self-inside.name.now
    (living l.self-inside.gone (lines_of l.self-inside.text.now l.self-inside.left.now))
    ≡ l.fn.self)

abbrev pub decreases-loop-first : goal.decreases-loop-first
decreases-loop-first l = length l.self-inside.left.now
