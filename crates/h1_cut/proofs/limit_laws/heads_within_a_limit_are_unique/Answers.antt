use Rattle.h1_cut.proofs.LimitLemmas.{CutsAt-unique, cut_or_not, fronts_uncut}
use Rattle.h1_cut.proofs.limit_laws.heads_within_a_limit_are_unique.Goals as goal

pub returns : goal.returns
returns c = record { one = CutsAt-unique; none = cut_or_not; fronts = fronts_uncut }
