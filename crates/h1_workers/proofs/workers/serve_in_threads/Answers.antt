use Rattle.std.proofs.Common.{rules, sym}
use Rattle.h1_serving.specs.Peer.{clock_of}
use Rattle.h1_workers.specs.Workers.{AnswersFrom}
use Rattle.h1_workers.proofs.ZipLemmas.{ok_zip}
use Rattle.h1_workers.proofs.workers.serve_in_threads.Goals as goal

pub returns-clause-served : goal.returns-clause-served
returns-clause-served g c =
    ok_zip (λ v. v.items) (λ v. v.len) (λ v. sym v.ok.0) _ _
    (λ clock served. AnswersFrom g.A.Link.Link.state (g.P.ServePeer.stands c.args.peers.now)
    (clock_of g.T.Clock.moment g.T.Clock.asked clock) served) c.args.clocks.items c.args.clocks.len
    c.map_vec.result (sym c.args.clocks.ok.0) c.map_vec.ensures.len c.map_vec.ensures.each (λ clock served says. search rules)
