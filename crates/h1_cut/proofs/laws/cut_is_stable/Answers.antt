use Rattle.h1_cut.proofs.CutLemmas.{cut-append}
use Rattle.h1_cut.proofs.laws.cut_is_stable.Goals as goal

pub returns : goal.returns
returns c = cut-append
