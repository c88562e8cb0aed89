use Rattle.h1_serve.proofs.PolledLemmas.{spent_moved}
use Rattle.h1_serve.proofs.laws.polls_for_the_budget_are_few.Goals as goal

pub returns : goal.returns
returns c = spent_moved
