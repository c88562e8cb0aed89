-- No byte moves.
use Rattle.std.proofs.Common.{ap}
use Rattle.h1_client.specs.Words.{LinkState}
use Rattle.h1_client.proofs.CallLemmas.{sound_lent}
use Rattle.h1_client.proofs.v1.HttpSession.shutdown.Goals as goal

pub invariant_of-self : goal.invariant_of-self
invariant_of-self g c =
    sound_lent g.L.Link.state c.self.inside.transfer c.shutdown.new.self _ _ _ _ c.self.invariant
    c.shutdown.ensures.rest (ap (λ (s : LinkState). s.given) c.shutdown.ensures.state)
    (ap (λ (s : LinkState). s.written) c.shutdown.ensures.state)
