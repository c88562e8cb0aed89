use Rattle.std.proofs.Common.{◌≡◌, length, refl, arith, inl, inr}
use Rattle.h1_body.proofs.FeedLemmas.{feeds_chunk, feeds_rest, ended, feeds_still, passes, skips_on}
use Rattle.h1_body.proofs.reader.feed_chunks.Goals as goal

pub returns-then-more-room : goal.returns-then-more-room
returns-then-more-room c =
    rw c.of.ensures (feeds_chunk c.args.start c.args.piece.now c.loop-at.at c.in-Data.more
    c.if-more-room.true
    (rw c.in-Data.is at c.loop-at.invariant))

pub returns-in-Data : goal.returns-in-Data
returns-in-Data c =
    rw c.of-in-Data.ensures
    (feeds_rest c.args.start c.args.piece.now c.loop-at.at c.in-Data.more c.loop-at-test.true
    c.if-more-room.false
    (rw c.in-Data.is at c.loop-at.invariant))

pub loop-at-preserved : goal.loop-at-preserved
loop-at-preserved c =
    rw c.step-place.ensures
    (skips_on c.args.start c.loop-at.place c.args.piece.now c.loop-at.at c.loop-at-test.true
    c.loop-at.invariant
    (passes c.loop-at.place c.in_default.not-Data c.in_default.not-Done c.in_default.not-Broken))

pub returns-in-Done : goal.returns-in-Done
returns-in-Done c =
    rw (c.of-in-Done.ensures, c.state_of.ensures) (feeds_still c.args.start c.loop-at.place
    c.args.piece.now c.loop-at.at (omega arith) c.loop-at.invariant (inr (ended c.loop-at.place c.in-Done.is)))

pub returns : goal.returns
returns c =
    let is : c.loop-at.at ≡ length c.args.piece.now = omega arith in
    rw (c.of-2.ensures, c.state_of-2.ensures) (feeds_still c.args.start c.loop-at.place
    c.args.piece.now (length c.args.piece.now) (omega arith) (rw is at c.loop-at.invariant) (inl refl))
