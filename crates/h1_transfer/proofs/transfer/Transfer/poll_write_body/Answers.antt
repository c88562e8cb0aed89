-- A piece that is handed in is taken up and delivered.
use Rattle.std.proofs.Common.{refl}
use Rattle.h1_transfer.proofs.OptionLemmas.{if_none, is_nothing}
use Rattle.h1_transfer.proofs.WriteLemmas.{piece_written, taken_piece, taken_unrefused}
use Rattle.h1_transfer.proofs.transfer.Transfer.poll_write_body.Goals as goal

pub deliver_piece-answer-requires-clause-piece : goal.deliver_piece-answer-requires-clause-piece
deliver_piece-answer-requires-clause-piece g c =
    let free = rw (← c.self.view_is) at c.requires.free in
    taken_piece c.self.inside.outgoing _ _ _ c.take_piece-count.ensures.count c.take_piece-count.ensures.takes free

pub deliver_piece-answer-requires-clause-unrefused : goal.deliver_piece-answer-requires-clause-unrefused
deliver_piece-answer-requires-clause-unrefused g c =
    let unrefused = is_nothing c.self.inside.outgoing.refused c.in_default.not-Some in
    taken_unrefused c.self.inside.outgoing _ _ c.take_piece-count.ensures.takes unrefused

pub returns-clause-writes : goal.returns-clause-writes
returns-clause-writes g c =
    let free = rw (← c.self.view_is) at c.requires.free in
    let unrefused = is_nothing c.self.inside.outgoing.refused c.in_default.not-Some in
    let count = c.take_piece-count in
    let delivered = c.deliver_piece-answer.ensures in
    rw (← c.self.view_is) (if_none c.self.inside.outgoing.refused _
    (piece_written g.L.Link.state c.args.deadline _ _ count.new.outgoing count.result c.deliver_piece-answer.new.budget
    c.deliver_piece-answer.result c.args.buf.now _ count.ensures.out count.ensures.count count.ensures.takes free
    c.self.invariant unrefused (rw c.allowance_of-left.ensures at delivered.sent) c.budget_left-self-inside.ensures
    refl delivered.same delivered.answer (rw c.allowance_of-left.ensures at delivered.timed)))
