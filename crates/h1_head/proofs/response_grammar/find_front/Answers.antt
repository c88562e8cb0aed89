use Rattle.std.proofs.Common.{arith}
use Rattle.h1_head.proofs.FrontLemmas.{response_front_at}
use Rattle.h1_head.proofs.response_grammar.find_front.Goals as goal

pub returns-in-Ok-Complete : goal.returns-in-Ok-Complete
returns-in-Ok-Complete c =
    let is = c.in-Ok-Complete.field-0-is in
    let room = c.requires in
    response_front_at _ _ _ (rw is at c.in-Ok-Complete.ensures.within)
    (rw is at c.in-Ok-Complete.ensures.complete) (omega (arith, c.parse_response.auto.headers))
    c.if-head-le-MAX_HEADER_SIZE.true
