use Rattle.h1_forward.proofs.RungLemmas.{is_forwarded}
use Rattle.h1_forward.proofs.forward_laws.a_forwarded_request_is_the_same_request.Goals as goal

pub returns : goal.returns
returns g c = is_forwarded g.L.Link.state g.L.Link.same_plan
