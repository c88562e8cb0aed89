use Rattle.h1_head.proofs.RequestHeadLemmas.{HeadAt-append, RefusedAt-append}
use Rattle.h1_head.proofs.reading_laws.request_heads_are_stable.Goals as goal

pub returns : goal.returns
returns c = record { accepted = HeadAt-append; refused = RefusedAt-append }
