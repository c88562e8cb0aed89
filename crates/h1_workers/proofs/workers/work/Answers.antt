use Rattle.std.proofs.Common.{arith}
use Rattle.h1_serving.specs.Peer.{clock_of}
use Rattle.h1_workers.proofs.TurnLemmas.{one_more}
use Rattle.h1_workers.proofs.workers.work.Goals.{in-Link, in-Failed}
use Rattle.h1_workers.proofs.workers.work.Goals as goal

pub loop-preserved : goal.loop-preserved
loop-preserved g c = elim c.match-next_link.branch [
  | in-Link w ↦ rw (w.served-is, w.clock-is)
      (one_more g.A.Link.Link.state (g.P.ServePeer.stands c.args.peers.now)
      (clock_of g.T.Clock.moment g.T.Clock.asked c.args.clock)
      (clock_of g.T.Clock.moment g.T.Clock.asked c.loop.clock)
      (clock_of g.T.Clock.moment g.T.Clock.asked w.serve-done.new.clock) c.loop.served
      w.serve-done.new.served w.serve-done.ensures.answer c.loop.counter w.serve-done.ensures.told
      c.loop.invariant w.serve-done.ensures.answers)
  | in-Failed w ↦ rw (w.served-is, w.clock-is)
      (omega (arith, c.loop.invariant.0), c.loop.invariant.1)
]
