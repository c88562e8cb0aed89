-- The rest of the request's body is read.
use Rattle.std.proofs.Common.{refl}
use Rattle.h1_app.proofs.DrainSteps.{drain_continues, drain_leaves, drain_stepped}
use Rattle.h1_app.proofs.steps.draining.drain.Goals as goal

pub returns-clause-stepped : goal.returns-clause-stepped
returns-clause-stepped g c = λ filters shutdown allowed.
    drain_stepped g.L.Link.state _ c.args.now _ _ _ _ _ _ _ c.requires.ready c.requires.at
    c.last_entry-entry.ensures.value c.reuse-answer.ensures.reuses c.reuse-answer.ensures.calls
    c.stand.ensures _ allowed _ shutdown _ refl

pub returns-clause-continues : goal.returns-clause-continues
returns-clause-continues g c =
    drain_continues g.L.Link.state _ _ _ _ _ _ _ _ _ c.requires.ready c.requires.at
    c.last_entry-entry.ensures.value c.reuse-answer.ensures.reuses c.reuse-answer.ensures.calls
    c.stand.ensures _ _ _ _ refl refl c.reuse-answer.ensures.plan

pub returns-clause-leaves : goal.returns-clause-leaves
returns-clause-leaves g c =
    drain_leaves g.L.Link.state _ _ _ _ _ _ _ _ _ c.requires.ready c.requires.at
    c.last_entry-entry.ensures.value c.reuse-answer.ensures.reuses c.reuse-answer.ensures.calls
    c.stand.ensures
