use Rattle.h1_cut.proofs.SearchLemmas.{HasLooked-append}
use Rattle.h1_cut.proofs.limit_laws.searches_go_on.Goals as goal

pub returns : goal.returns
returns c = HasLooked-append
