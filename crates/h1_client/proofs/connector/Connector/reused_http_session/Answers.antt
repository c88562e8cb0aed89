-- The link that is picked leads to the peer, and was found fresh.
use Rattle.h1_client.proofs.PickLemmas.{found_fresh, leads_to}
use Rattle.h1_client.proofs.connector.Connector.reused_http_session.Goals as goal

pub returns-clause-looked : goal.returns-clause-looked
returns-clause-looked g c =
    found_fresh g.L.Link.state _ c.args.now _ _ _ _ c.in_ok-pick.field-0 c.args.peer.now
    c.into_session.result c.pick_idle-pick.ensures c.in_ok-pick.was c.into_session.ensures.new

pub returns-clause-reused : goal.returns-clause-reused
returns-clause-reused g c = (
  leads_to g.L.Link.state c.args.now _ _ _ _ c.in_ok-pick.field-0 c.args.peer.now
      c.into_session.result c.pick_idle-pick.ensures c.in_ok-pick.was c.into_session.ensures.new,
  c.into_session.ensures.served,
)
