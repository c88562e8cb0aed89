use Rattle.h1_cut.proofs.CutLemmas.{cut_front}
use Rattle.h1_cut.proofs.laws.cut_of_its_front.Goals as goal

pub returns : goal.returns
returns c = cut_front
