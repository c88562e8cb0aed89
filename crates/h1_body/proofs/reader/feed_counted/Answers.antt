use Rattle.h1_body.proofs.CountedLemmas.{counted_ends, counted_goes}
use Rattle.h1_body.proofs.reader.feed_counted.Goals as goal

pub returns-then-left-piece : goal.returns-then-left-piece
returns-then-left-piece c =
    rw c.of.ensures (counted_ends c.args.left c.args.piece.now c.if-left-piece.true)

pub returns : goal.returns
returns c = rw c.of-2.ensures (counted_goes c.args.left c.args.piece.now c.if-left-piece.false)
