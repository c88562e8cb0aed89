use Rattle.std.proofs.Common.{◌≡◌, ◌++◌, List, ℕ, take, drop}
use Rattle.h1_fields.specs.Lines.{has_line, first_value, with_line}
use Rattle.h1_fields.specs.Spans.{lines_of}
use Rattle.h1_fields.proofs.span.first_named.Given as goal

abbrev pub invariant-loop-at : goal.invariant-loop-at
invariant-loop-at l =
    let all = lines_of l.text l.spans in
    let left = lines_of l.text (drop l.at l.spans) in
    (has_line l.name left ≡ has_line l.name all)
    × (first_value l.name left ≡ first_value l.name all)
    × ((value : List ℕ)
    → lines_of l.text (take l.at l.spans) ++ with_line l.name value left
    ≡ with_line l.name value all)
