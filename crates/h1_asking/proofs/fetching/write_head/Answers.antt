use Rattle.std.proofs.Common.{◌∙◌}
use Rattle.h1_asking.proofs.PutLemmas.{asked_ok, asked_put}
use Rattle.h1_asking.proofs.fetching.write_head.Goals as goal

pub returns-in-Ready-Ok-clause-puts : goal.returns-in-Ready-Ok-clause-puts
returns-in-Ready-Ok-clause-puts g c =
    asked_ok g.L.Link.state g.L.Link.same_plan
    (g.L.Link.state c.args.session.now.transfer.link).written c.args.head _ _ _ _ _ _ _
    c.in-Ready-Ok.ensures.call c.loop.invariant.puts c.in-Ready-Ok.field-0-is

pub returns-in-Ready-Ok-clause-unread : goal.returns-in-Ready-Ok-clause-unread
returns-in-Ready-Ok-clause-unread g c before unread =
    c.ask.ensures.unread before (c.loop.invariant.unread before unread)

pub returns-in-Ready-Err-clause-unread : goal.returns-in-Ready-Err-clause-unread
returns-in-Ready-Err-clause-unread g c before unread =
    c.ask.ensures.unread before (c.loop.invariant.unread before unread)

pub loop-preserved : goal.loop-preserved
loop-preserved g c = record {
  handed = c.ask.ensures.handed c.args.head c.loop.invariant.handed;
  settings = c.ask.ensures.settings ∙ c.loop.invariant.settings;
  puts = asked_put g.L.Link.state g.L.Link.same_plan
      (g.L.Link.state c.args.session.now.transfer.link).written c.args.head _ _ _ _ _ _
      c.in-Pending.ensures.call c.loop.invariant.puts;
  unread = λ before unread. c.ask.ensures.unread before (c.loop.invariant.unread before unread);
}
