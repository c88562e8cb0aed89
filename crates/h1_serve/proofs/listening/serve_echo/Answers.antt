use Rattle.std.proofs.Common.{inl}
use Rattle.h1_serving.specs.Peer.{clock_of}
use Rattle.h1_serve.proofs.EchoedLemmas.{echoed_peer}
use Rattle.h1_serve.proofs.listening.serve_echo.Goals as goal

pub returns-in-Ok-clause-answer : goal.returns-in-Ok-clause-answer
returns-in-Ok-clause-answer g c =
    inl (echoed_peer g.L.Link.state g.L.Link.same_plan _ _
    (clock_of g.T.Clock.moment g.T.Clock.asked c.args.clock.now)
    (clock_of g.T.Clock.moment g.T.Clock.asked c.serve_peer.new.clock) c.args.link
    c.serve_peer.result.1 c.serve_peer.result.0 c.in-Ok.ensures.ok c.serve_peer.ensures)
