use Rattle.std.proofs.Common.{◌≡◌, length}
use Rattle.h1_fields.specs.Lines.{values_of}
use Rattle.h1_fields.specs.Living.{living}
use Rattle.h1_fields.specs.Spans.{AllFit, lines_of}
use Rattle.h1_fields.proofs.gone.first_value.Given as goal

abbrev pub invariant-loop-first : goal.invariant-loop-first
invariant-loop-first l =
    AllFit l.text l.left
    × (values_of l.name (living l.gone (lines_of l.text l.left))
    ≡ values_of l.name (living l.fn.gone (lines_of l.text l.fn.spans)))

abbrev pub decreases-loop-first : goal.decreases-loop-first
decreases-loop-first l = length l.left
