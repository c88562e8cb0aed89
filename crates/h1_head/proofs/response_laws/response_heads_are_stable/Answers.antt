use Rattle.h1_head.proofs.ResponseHeadLemmas.{RefusedAt-append, ResponseAt-append, ResponseAt-fronts}
use Rattle.h1_head.proofs.response_laws.response_heads_are_stable.Goals as goal

pub returns : goal.returns
returns c = record {
  accepted = ResponseAt-append;
  refused = RefusedAt-append;
  fronts = ResponseAt-fronts;
}
