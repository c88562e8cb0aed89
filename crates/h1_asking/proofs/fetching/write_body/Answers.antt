use Rattle.std.proofs.Common.{refl, ◌∙◌}
use Rattle.h1_asking.proofs.PutLemmas.{body_to_put, wrote_ok, wrote_put}
use Rattle.h1_asking.proofs.fetching.write_body.Goals as goal

pub loop-init : goal.loop-init
loop-init g c = record {
  request = refl;
  settings = refl;
  puts = λ before request has. body_to_put g.L.Link.state before request c.args.body
      c.args.session.now.transfer.link c.args.session.now.transfer.outgoing has.0;
  unread = λ before unread. unread;
}

pub loop-preserved : goal.loop-preserved
loop-preserved g c = record {
  request = c.write_piece.ensures.request ∙ c.loop.invariant.request;
  settings = c.write_piece.ensures.settings ∙ c.loop.invariant.settings;
  puts = λ before request has. wrote_put g.L.Link.state g.L.Link.same_plan before request c.args.body _ _ _ _
      _ _ c.in-Pending.ensures.call (c.loop.invariant.puts before request has);
  unread = λ before unread.
      c.write_piece.ensures.unread before (c.loop.invariant.unread before unread);
}

pub returns-in-Ready-Ok-clause-puts : goal.returns-in-Ready-Ok-clause-puts
returns-in-Ready-Ok-clause-puts g c before request has =
    wrote_ok g.L.Link.state g.L.Link.same_plan before request c.args.body _ _ _ _ _ _ _
    c.in-Ready-Ok.ensures.call (c.loop.invariant.puts before request has) c.in-Ready-Ok.field-0-is

pub returns-in-Ready-Err-clause-unread : goal.returns-in-Ready-Err-clause-unread
returns-in-Ready-Err-clause-unread g c before unread =
    c.write_piece.ensures.unread before (c.loop.invariant.unread before unread)
