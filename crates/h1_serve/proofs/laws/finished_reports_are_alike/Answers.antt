use Rattle.h1_serve.proofs.FinishedLemmas.{finished_alike}
use Rattle.h1_serve.proofs.laws.finished_reports_are_alike.Goals as goal

pub returns : goal.returns
returns c = finished_alike
