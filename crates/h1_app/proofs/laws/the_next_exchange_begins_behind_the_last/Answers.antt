-- An exchange that is over joins those before it.
use Rattle.h1_app.proofs.JoinLemmas.{accounted_joined}
use Rattle.h1_app.proofs.laws.the_next_exchange_begins_behind_the_last.Goals as goal

pub returns : goal.returns
returns g c = λ before old new done e ended again since.
    accounted_joined g.L.Link.state before old new done e ended again since
