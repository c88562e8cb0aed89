use Rattle.std.proofs.Common.{◌≤◌, length}
use Rattle.h1_serving.specs.Peer.{clock_of}
use Rattle.h1_workers.specs.Workers.{InTurn}
use Rattle.h1_workers.proofs.workers.work.Given as goal

abbrev pub invariant-loop : goal.invariant-loop
invariant-loop g l =
    (length l.served ≤ l.counter)
    × InTurn g.A.Link.Link.state (g.P.ServePeer.stands l.fn.peers)
    (clock_of g.T.Clock.moment g.T.Clock.asked l.fn.clock) l.served
    (clock_of g.T.Clock.moment g.T.Clock.asked l.clock)
