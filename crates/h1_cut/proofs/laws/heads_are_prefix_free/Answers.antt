use Rattle.h1_cut.proofs.CutLemmas.{cut-prefix_free}
use Rattle.h1_cut.proofs.laws.heads_are_prefix_free.Goals as goal

pub returns : goal.returns
returns c = cut-prefix_free
