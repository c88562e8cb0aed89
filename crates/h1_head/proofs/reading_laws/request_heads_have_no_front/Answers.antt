use Rattle.h1_head.proofs.RequestHeadLemmas.{HeadAt-fronts, HeadAt-prefix_free}
use Rattle.h1_head.proofs.reading_laws.request_heads_have_no_front.Goals as goal

pub returns : goal.returns
returns c = record { fronts = HeadAt-fronts; prefix_free = HeadAt-prefix_free }
