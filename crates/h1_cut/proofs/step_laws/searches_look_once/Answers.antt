use Rattle.h1_cut.proofs.SearchLemmas.{HasLookedAt-append}
use Rattle.h1_cut.proofs.StepLemmas.{all_calls, one_call}
use Rattle.h1_cut.proofs.step_laws.searches_look_once.Goals as goal

pub returns : goal.returns
returns c = record { front = HasLookedAt-append; one = one_call; all = all_calls }
