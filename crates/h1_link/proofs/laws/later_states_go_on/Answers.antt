use Rattle.h1_link.proofs.Laters.{later_on}
use Rattle.h1_link.proofs.laws.later_states_go_on.Goals as goal

pub returns-clause-on : goal.returns-clause-on
returns-clause-on c = later_on
