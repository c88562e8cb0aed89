use Rattle.std.proofs.Common.{◌≡◌, ◌+◌}
use Rattle.h1_serving.proofs.ServeLemmas.{IsServing}
use Rattle.h1_serving.proofs.serving.serve_link.Given as goal

abbrev pub invariant-loop : goal.invariant-loop
invariant-loop g l =
    IsServing g.L.Link.state g.L.Link.same_plan g.SV.ServeHttp.pends l.counter
    (g.T.Clock.moment l.fn.clock)
    (g.T.Clock.moment l.clock) l.fn.connection l.connection
    × (g.T.Clock.asked l.clock ≡ l.counter + g.T.Clock.asked l.fn.clock)
