use Rattle.std.proofs.Common.{arith}
use Rattle.h1_head.proofs.ResponseGrammarLemmas.{longer_head, whole_head}
use Rattle.h1_head.proofs.response_grammar.find_head.Goals as goal

pub returns-then-head-bytes : goal.returns-then-head-bytes
returns-then-head-bytes c =
    longer_head _ _ _ (rw c.in-Ok-Complete.field-0-is at c.in-Ok-Complete.ensures.complete)
    c.if-head-bytes.true

pub returns-else-head-bytes : goal.returns-else-head-bytes
returns-else-head-bytes c =
    let is = c.in-Ok-Complete.field-0-is in
    let room = c.requires in
    whole_head _ _ _ (rw is at c.in-Ok-Complete.ensures.within)
    (rw is at c.in-Ok-Complete.ensures.complete) (omega arith)
    (omega (arith, c.parse_response.auto.headers))
