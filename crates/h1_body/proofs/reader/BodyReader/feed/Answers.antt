use Rattle.h1_body.proofs.reader.BodyReader.feed.Goals as goal

pub returns-in-UntilClose-clause-feeds : goal.returns-in-UntilClose-clause-feeds
returns-in-UntilClose-clause-feeds c = rw c.in-UntilClose.is c.feed_all.ensures
