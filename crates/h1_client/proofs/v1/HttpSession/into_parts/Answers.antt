-- The exchange is whole.
use Rattle.std.proofs.Common.{sym}
use Rattle.h1_client.proofs.CallLemmas.{sound_reuse}
use Rattle.h1_client.proofs.v1.HttpSession.into_parts.Goals as goal

pub returns-clause-served : goal.returns-clause-served
returns-clause-served g c reusable =
    let is = rw (← c.self.view_is) at reusable in
    let s = c.self.inside in
    rw c.into_link.ensures (sound_reuse g.L.Link.state s.transfer s.asked s.answered s.keepalive
    s.settings s.payload_read s.spent c.self.invariant (sym is))
