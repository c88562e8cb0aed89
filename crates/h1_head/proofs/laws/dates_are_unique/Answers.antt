use Rattle.h1_head.proofs.DateLemmas.{date_unique}
use Rattle.h1_head.proofs.laws.dates_are_unique.Goals as goal

pub returns : goal.returns
returns c = date_unique
