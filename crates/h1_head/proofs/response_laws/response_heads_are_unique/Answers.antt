use Rattle.h1_head.proofs.ResponseHeadLemmas.{RefusedAt-not_begun, RefusedAt-unique, ResponseAt-not_begun, ResponseAt-not_refused, ResponseAt-unique}
use Rattle.h1_head.proofs.response_laws.response_heads_are_unique.Goals as goal

pub returns : goal.returns
returns c = record {
  accepted = ResponseAt-unique;
  refused = RefusedAt-unique;
  accepted_or_refused = ResponseAt-not_refused;
  accepted_or_not_yet = ResponseAt-not_begun;
  refused_or_not_yet = RefusedAt-not_begun;
}
