use Rattle.std.proofs.Common.{◌≡◌, ◌++◌, map}
use Rattle.h1_head.specs.Parts.{line_of, lines_of}
use Rattle.h1_head.proofs.parts.lines_of.Given as goal

abbrev pub invariant-loop-name : goal.invariant-loop-name
invariant-loop-name l = l.fields ++ map line_of l.name-iterator ≡ lines_of l.headers
