use Rattle.std.proofs.Common.{Some, None, [], sym, ◌∙◌}
use Rattle.h1_cut.proofs.FeedLemmas.{feed_finds, feed_keeps}
use Rattle.h1_cut.proofs.search.HeadSearch.feed_from.Goals as goal

pub returns-in-Some-clause-exact : goal.returns-in-Some-clause-exact
returns-in-Some-clause-exact g c =
    feed_finds c.args.self.now c.look.new.self c.args.piece.now _ (Some c.in-Some.len)
    c.new.ensures (sym c.in-Some.is ∙ c.look.ensures.found) (c.look.ensures.kept [])

pub returns-clause-exact : goal.returns-clause-exact
returns-clause-exact g c =
    feed_finds c.args.self.now c.look.new.self c.args.piece.now _ None
    c.new.ensures (sym c.in-None.is ∙ c.look.ensures.found) (c.look.ensures.kept [])

pub returns-clause-kept : goal.returns-clause-kept
returns-clause-kept g c more =
    feed_keeps c.args.self.now c.look.new.self c.args.piece.now _ more c.new.ensures c.in-None.ensures.at (c.look.ensures.kept more)
