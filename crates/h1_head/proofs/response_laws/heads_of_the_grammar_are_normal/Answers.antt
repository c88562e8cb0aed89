use Rattle.h1_head.proofs.NormalLemmas.{normal_of_grammar}
use Rattle.h1_head.proofs.response_laws.heads_of_the_grammar_are_normal.Goals as goal

pub returns : goal.returns
returns c = normal_of_grammar
