use Rattle.h1_body.proofs.LawLemmas.{bodies_grow}
use Rattle.h1_body.proofs.laws.bodies_grow.Goals as goal

pub returns : goal.returns
returns c = bodies_grow
