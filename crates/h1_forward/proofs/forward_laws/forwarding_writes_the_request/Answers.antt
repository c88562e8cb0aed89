use Rattle.h1_forward.proofs.RunLemmas.{run_takes}
use Rattle.h1_forward.proofs.forward_laws.forwarding_writes_the_request.Goals as goal

pub returns : goal.returns
returns g c =
    λ moments request payload front new before behind.
    run_takes g.L.Link.state g.L.Link.same_plan moments request payload new before behind front
