use Rattle.std.proofs.Common.{refl, inl, ◌∙◌}
use Rattle.h1_asking.proofs.EndLemmas.{ended_ok, ended_put}
use Rattle.h1_asking.proofs.fetching.write_end.Goals as goal

pub loop-init : goal.loop-init
loop-init g c = record {
  request = refl;
  settings = refl;
  puts = λ before request body has. inl has;
  unread = λ before unread. unread;
}

pub loop-preserved : goal.loop-preserved
loop-preserved g c = record {
  request = c.finish.ensures.request ∙ c.loop.invariant.request;
  settings = c.finish.ensures.settings ∙ c.loop.invariant.settings;
  puts = λ before request body has. ended_put g.L.Link.state g.L.Link.same_plan before request body _ _ _
      c.in-Pending.ensures.call (c.loop.invariant.puts before request body has);
  unread = λ before unread. c.finish.ensures.unread before (c.loop.invariant.unread before unread);
}

pub returns-in-Ready-Ok-clause-takes : goal.returns-in-Ready-Ok-clause-takes
returns-in-Ready-Ok-clause-takes g c before request body has =
    ended_ok g.L.Link.state g.L.Link.same_plan before request body _ _ _ _ c.in-Ready-Ok.ensures.call
    (c.loop.invariant.puts before request body has) c.in-Ready-Ok.field-0-is

pub returns-in-Ready-Ok-clause-unread : goal.returns-in-Ready-Ok-clause-unread
returns-in-Ready-Ok-clause-unread g c before unread =
    c.finish.ensures.unread before (c.loop.invariant.unread before unread)

pub returns-in-Ready-Err-clause-unread : goal.returns-in-Ready-Err-clause-unread
returns-in-Ready-Err-clause-unread g c before unread =
    c.finish.ensures.unread before (c.loop.invariant.unread before unread)
