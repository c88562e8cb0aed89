use Rattle.h1_head.proofs.HeadEndLemmas.{cut_of_grammar}
use Rattle.h1_head.proofs.reading_laws.request_heads_end_with_their_grammar.Goals as goal

pub returns : goal.returns
returns c = cut_of_grammar
