use Rattle.h1_words.proofs.FrontLemmas.{long_scripts_agree}
use Rattle.h1_words.proofs.laws.long_scripts_are_judged_by_their_front.Goals as goal

pub returns : goal.returns
returns c = long_scripts_agree
