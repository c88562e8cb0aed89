use Rattle.std.proofs.Common.{◌≡◌}
use Rattle.std.specs.Option.{option_copied}
use Rattle.h1_fetch.specs.Getting.{peer_at}
use Rattle.h1_fetch.specs.Request.{whole_request}
use Rattle.h1_fetch.proofs.GetLemmas.{GetsSoFar}
use Rattle.h1_fetch.proofs.getting.get.Given as goal

abbrev pub invariant-loop-number : goal.invariant-loop-number
invariant-loop-number g l = record {
  far : GetsSoFar g.D.Link.Link.state g.D.Dialer.state (peer_at l.asked.port)
      (whole_request l.asked.path.now (option_copied l.asked.body)) l.number l.reused
      (g.K.Sink.state l.fn.sink) (g.K.Sink.state l.sink) l.fn.dialer l.dialer;
  quiet : g.M.Sink.state l.messages ≡ g.M.Sink.state l.fn.messages;
}
