use Rattle.std.proofs.Common.{sym, ap, subst}
use Rattle.h1_subrequest.specs.Events.{SubView, CoreView}
use Rattle.h1_subrequest.specs.Interleavings.{HoldsTogether}
use Rattle.h1_subrequest.proofs.EventLemmas.{every_run}
use Rattle.h1_subrequest.proofs.running.sub_run.Goals as goal

pub returns-in-Ok-clause-holds : goal.returns-in-Ok-clause-holds
returns-in-Ok-clause-holds c =
    subst (λ (s : SubView). HoldsTogether c.args.request.now s)
    (sym (ap (λ (core : CoreView). core.state) c.in-Ok.ensures.ok))
    (every_run c.args.request.now c.args.events.items)
