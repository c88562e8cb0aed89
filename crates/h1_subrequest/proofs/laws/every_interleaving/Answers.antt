use Rattle.h1_subrequest.proofs.EventLemmas.{every_run}
use Rattle.h1_subrequest.proofs.laws.every_interleaving.Goals as goal

pub returns : goal.returns
returns c = every_run
