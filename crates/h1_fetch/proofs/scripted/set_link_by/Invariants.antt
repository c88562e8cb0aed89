use Rattle.std.proofs.Common.{◌≡◌, drop}
use Rattle.h1_fetch.specs.ScriptState.{link_behind_all, over_link}
use Rattle.h1_fetch.proofs.scripted.set_link_by.Given as goal

abbrev pub invariant-loop-command : goal.invariant-loop-command
invariant-loop-command l = record {
  link : link_behind_all (drop l.command-index l.commands) l.session.transfer.link
      ≡ link_behind_all l.commands l.fn.session.transfer.link;
  rest : l.session ≡ over_link l.fn.session l.session.transfer.link;
}
