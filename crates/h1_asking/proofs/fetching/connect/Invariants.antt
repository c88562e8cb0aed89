use Rattle.h1_asking.specs.Fetching.{AfterWaits}
use Rattle.h1_asking.proofs.fetching.connect.Given as goal

abbrev pub invariant-loop-waits : goal.invariant-loop-waits
invariant-loop-waits g l =
    AfterWaits g.D.Link.Link.state g.D.Dialer.state l.peer l.waits l.fn.dialer l.dialer
