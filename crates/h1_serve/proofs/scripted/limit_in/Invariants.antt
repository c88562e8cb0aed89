use Rattle.std.proofs.Common.{◌≡◌, drop}
use Rattle.h1_serve.specs.Report.{limit_in}
use Rattle.h1_serve.proofs.scripted.limit_in.Given as goal

abbrev pub invariant-loop-command : goal.invariant-loop-command
invariant-loop-command l = limit_in (drop l.command-index l.commands) ≡ limit_in l.commands
