-- In no bytes there is no head yet.
use Rattle.h1_head.proofs.RequestHeadLemmas.{not_yet_empty}
use Rattle.h1_server.proofs.reading_head.RequestPlaceHead.search.Goals as goal

pub returns-then-is_empty-clause-ok : goal.returns-then-is_empty-clause-ok
returns-then-is_empty-clause-ok c = not_yet_empty c.args.bytes.now c.if-is_empty.ensures
