use Rattle.std.proofs.Common.{◌≡◌}
use Rattle.h1_subrequest.specs.Events.{sub_run, sub_steps}
use Rattle.h1_subrequest.proofs.running.run_all.Given as goal

-- the events that are left lead from here to where all of them lead
abbrev pub invariant-loop-event : goal.invariant-loop-event
invariant-loop-event l = record {
  request : l.core.request ≡ l.fn.request;
  run : sub_steps l.fn.request l.core.state l.event-iterator.rest.items
      ≡ sub_run l.fn.request l.fn.events.items;
}
