-- The request is written, so none of its writes was refused, and nothing came behind the response.
use Rattle.h1_client.proofs.CallLemmas.{unreceived, unrefused}
use Rattle.h1_client.proofs.v1.HttpSession.leave.Goals as goal

pub swap_memory-requires-clause-received : goal.swap_memory-requires-clause-received
swap_memory-requires-clause-received g c =
    let is = rw (← c.self.view_is) at c.requires in
    let s = c.self.inside in
    unreceived s.transfer s.asked s.answered s.keepalive s.settings s.payload_read s.spent is

pub swap_memory-requires-clause-unrefused : goal.swap_memory-requires-clause-unrefused
swap_memory-requires-clause-unrefused g c =
    let is = rw (← c.self.view_is) at c.requires in
    let s = c.self.inside in
    unrefused s.transfer s.asked s.answered s.keepalive s.settings s.payload_read s.spent is
