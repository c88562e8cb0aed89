use Rattle.std.proofs.Common.{take}
use Rattle.h1_body.proofs.FeedLemmas.{Skips}
use Rattle.h1_body.proofs.reader.feed_chunks.Given as goal

abbrev pub invariant-loop-at : goal.invariant-loop-at
invariant-loop-at l = Skips l.fn.start (take l.at l.piece) l.place
