use Rattle.std.proofs.Common.{refl}
use Rattle.h1_health.proofs.HealthLemmas.{answered}
use Rattle.h1_health.proofs.health.is_healthy.Goals as goal

pub returns-clause-ok : goal.returns-clause-ok
returns-clause-ok g c =
    answered g.D.Link.Link.state g.D.Dialer.state c.args.peer.now _ _ _ _ _ c.in-Ok.ensures
    c.in_ok-fetched.ensures.ok refl
