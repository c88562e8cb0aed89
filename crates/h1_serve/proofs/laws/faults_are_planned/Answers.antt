use Rattle.h1_serve.proofs.PlannedLemmas.{few_faults}
use Rattle.h1_serve.proofs.laws.faults_are_planned.Goals as goal

pub returns : goal.returns
returns c = few_faults
