use Rattle.std.proofs.Common.{drop}
use Rattle.h1_serve.proofs.LineLemmas.{Goes}
use Rattle.h1_serve.proofs.scripted.play.Given as goal

abbrev pub invariant-loop-command : goal.invariant-loop-command
invariant-loop-command l = Goes l.commands (drop l.command-index l.commands) l.scripted l.text
