use Rattle.std.proofs.Common.{drop}
use Rattle.h1_fetch.specs.ScriptState.{state_of}
use Rattle.h1_fetch.proofs.PlayLemmas.{Goes}
use Rattle.h1_fetch.proofs.scripted.report_of.Given as goal

abbrev pub invariant-loop-line : goal.invariant-loop-line
invariant-loop-line l = Goes l.lines (drop l.line-index l.lines) (state_of l.scripted) l.text
