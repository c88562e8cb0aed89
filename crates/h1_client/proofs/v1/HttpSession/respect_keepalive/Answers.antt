-- What is kept goes on with HTTP.
use Rattle.h1_client.proofs.CallLemmas.{sound_respects}
use Rattle.h1_client.proofs.v1.HttpSession.respect_keepalive.Goals as goal

pub invariant_of-self : goal.invariant_of-self
invariant_of-self g c =
    rw c.keep_of-self-inside.ensures (sound_respects g.L.Link.state c.self.inside.transfer _ _ _ _ _ c.self.invariant)
