use Rattle.std.proofs.Common.{subst}
use Rattle.h1_app.specs.Filtering.{rules_of}
use Rattle.h1_serving.specs.Peer.{Closed, clock_of}
use Rattle.h1_serving.proofs.PeerLemmas.{ok_and, at_ok, served_of}
use Rattle.h1_serving.proofs.peer.serve_peer.Goals as goal

pub serve_link-answer-requires : goal.serve_link-answer-requires
serve_link-answer-requires g c =
    let fresh = ok_and _ _ _ c.unwrap-connection.ensures c.new.ensures.fresh in
    record { done = fresh.done; last = fresh.last; work = fresh.work; end = fresh.end }

pub returns : goal.returns
returns g c =
    let fresh = ok_and _ _ _ c.unwrap-connection.ensures c.new.ensures.fresh in
    let s = c.serve_link-answer.ensures in
    let closed = subst (λ link. Closed (g.L.Link.state link)
    (g.L.Link.state c.close_link.new.link)) c.into_link-served.ensures
    c.close_link.ensures.closed in
    served_of (rules_of g.SV.ServeHttp.gives g.B.HttpModuleBuilder g.B.Module.HttpModule)
    g.L.Link.state g.L.Link.same_plan g.SV.ServeHttp.pends
    (clock_of g.T.Clock.moment g.T.Clock.asked c.args.clock.now)
    (clock_of g.T.Clock.moment g.T.Clock.asked c.serve_link-answer.new.clock) c.args.link
    c.close_link.new.link _ c.serve_link-answer.new.connection c.serve_link-answer.result _ _
    fresh.link fresh.served fresh.terms
    (record { done = fresh.done; last = fresh.last; work = fresh.work; end = fresh.end })
    (at_ok _ _ _ c.unwrap-connection.ensures c.new.ensures.accounted)
    (record {
      kept = s.kept;
      leaves = s.leaves;
      accounted = s.accounted;
      agrees = s.agrees;
      in_call = s.served;
      cause = s.answer;
      timely = s.timely;
    }) closed
