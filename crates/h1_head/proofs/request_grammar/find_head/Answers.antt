use Rattle.h1_head.proofs.SpanLemmas.{longer_head}
use Rattle.h1_head.proofs.request_grammar.find_head.Goals as goal

pub returns-then-head-bytes : goal.returns-then-head-bytes
returns-then-head-bytes c =
    let parsed = rw c.in-Ok-Complete.field-0-is at c.in-Ok-Complete.ensures.complete in
    longer_head _ _ _ parsed c.if-head-bytes.true
