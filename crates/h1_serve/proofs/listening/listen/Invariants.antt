use Rattle.std.proofs.Common.{◌≡◌, Some}
use Rattle.h1_serving.specs.Peer.{clock_of}
use Rattle.h1_serve.specs.ListenPeer.{IsPeer}
use Rattle.h1_serve.specs.Listening.{Serves, GoesOn}
use Rattle.h1_serve.proofs.listening.listen.Given as goal

abbrev pub invariant-loop-number : goal.invariant-loop-number
invariant-loop-number g l =
    Serves (IsPeer g.A.Link.Link.state g.A.Link.Link.same_plan) l.number 0
    (g.K.Sink.state l.fn.sink) (g.K.Sink.state l.sink)
    (g.A.Acceptor.state l.fn.net) (g.A.Acceptor.state l.net)
    (clock_of g.T.Clock.moment g.T.Clock.asked l.fn.clock)
    (clock_of g.T.Clock.moment g.T.Clock.asked l.clock)
    × ((g.A.Acceptor.state l.net).port ≡ Some l.port)
    × GoesOn (clock_of g.T.Clock.moment g.T.Clock.asked l.fn.clock)
    (clock_of g.T.Clock.moment g.T.Clock.asked l.clock)
