use Rattle.std.proofs.Common.{◌≡◌, drop, true}
use Rattle.h1_transcript.specs.declared.history.History.TheVariants.{Kept}
use Rattle.h1_app.specs.View.{holding_of, limit_of, unlimited}
use Rattle.h1_serve.specs.Report.{limit_in}
use Rattle.h1_serve.proofs.ModuleLemmas.{Adds}
use Rattle.h1_serve.proofs.scripted.server_for.Given as goal

abbrev pub invariant-loop-command : goal.invariant-loop-command
invariant-loop-command l = record {
  limit : limit_of l.server.server_options ≡ limit_in l.commands;
  holding : holding_of l.server.server_options true ≡ unlimited Kept true;
  adds : Adds l.commands (drop l.command-index l.commands) l.command-index l.key l.server.modules;
}
