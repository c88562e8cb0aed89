use Rattle.h1_app.proofs.LinkedLemmas.{accounted_made}
use Rattle.h1_app.proofs.connection.Connection.new.Goals as goal

pub returns-clause-accounted : goal.returns-clause-accounted
returns-clause-accounted g c =
    accounted_made g.L.Link.state _ _ _ _ _ _ c.in_ok-session.ensures
    c.set_keepalive_reuses_remaining.ensures c.new-2.ensures.done c.new-2.ensures.last
