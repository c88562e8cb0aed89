use Rattle.h1_cut.proofs.LimitLemmas.{CutsAt-append, CutsAt-front, HasNoCut-append}
use Rattle.h1_cut.proofs.limit_laws.heads_within_a_limit_are_stable.Goals as goal

pub returns : goal.returns
returns c = record { found = CutsAt-append; bytes = CutsAt-front; none = HasNoCut-append }
