-- Nothing is asked or answered yet.
use Rattle.std.proofs.Common.{ap}
use Rattle.h1_client.specs.declared.asked.Asked.{Asked}
use Rattle.h1_client.proofs.CallLemmas.{sound_start}
use Rattle.h1_client.proofs.v1.HttpSession.with_place.Goals as goal

pub invariant_of-result : goal.invariant_of-result
invariant_of-result g c =
    rw c.swap_memory.ensures.transfer (sound_start g.L.Link.state c.new-transfer.result c.new.result c.new-2.result _
    c.requires c.new-transfer.ensures (ap (λ (a : Asked). a.request) c.new.ensures)
    c.new-2.ensures.none.0 c.new-2.ensures.searched)
