use Rattle.std.proofs.Common.{◌≡◌, ◌≤◌, ◌++◌, ◌-◌, length, take, drop}
use Rattle.h1_fields.specs.Lines.{without}
use Rattle.h1_fields.specs.Spans.{AllFit, lines_of}
use Rattle.h1_fields.proofs.span.remove_named.Given as goal

abbrev pub invariant-loop-at : goal.invariant-loop-at
invariant-loop-at l = record {
  start : l.start ≤ l.at;
  at : l.at ≤ length l.spans.items;
  fit : AllFit l.text l.spans.items;
  lines :
      lines_of l.text (take l.at l.spans.items)
      ++ without l.name (lines_of l.text (drop l.at l.spans.items))
      ≡ lines_of l.text (take l.start l.fn.spans.items)
      ++ without l.name (lines_of l.text (drop l.start l.fn.spans.items));
}

abbrev pub decreases-loop-at : goal.decreases-loop-at
decreases-loop-at l = length l.spans.items - l.at
