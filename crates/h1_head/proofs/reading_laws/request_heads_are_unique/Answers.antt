use Rattle.h1_head.proofs.RequestHeadLemmas.{HeadAt-not_begun, HeadAt-not_refused, HeadAt-unique, IsReadAs-unique, RefusedAt-not_begun, RefusedAt-unique}
use Rattle.h1_head.proofs.reading_laws.request_heads_are_unique.Goals as goal

pub returns : goal.returns
returns c = record {
  accepted = HeadAt-unique;
  refused = RefusedAt-unique;
  raw = IsReadAs-unique;
  accepted_or_refused = HeadAt-not_refused;
  accepted_or_not_yet = HeadAt-not_begun;
  refused_or_not_yet = RefusedAt-not_begun;
}
