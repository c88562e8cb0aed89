use Rattle.h1_fetch.proofs.PlayLemmas.{popped}
use Rattle.h1_fetch.proofs.stepping.first_piece.Goals as goal

pub returns-clause-next : goal.returns-clause-next
returns-clause-next c =
    let parts = popped c.args.pieces.now.items c.pop_front.new.self.items c.pop_front.result
    c.pop_front.ensures.items c.pop_front.ensures.rest in
    parts.0

pub returns-clause-left : goal.returns-clause-left
returns-clause-left c =
    let parts = popped c.args.pieces.now.items c.pop_front.new.self.items c.pop_front.result
    c.pop_front.ensures.items c.pop_front.ensures.rest in
    parts.1
