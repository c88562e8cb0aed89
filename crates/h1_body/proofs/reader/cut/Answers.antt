-- What is split off is cut to the payload.
use Rattle.std.proofs.Common.{arith}
use Rattle.h1_body.proofs.TakeLemmas.{cut_is}
use Rattle.h1_body.proofs.reader.cut.Goals as goal

pub returns-clause-ok : goal.returns-clause-ok
returns-clause-ok c = (
  cut_is c.args.buf.now.items c.args.start c.args.end c.in_ok-piece.piece c.advance-2.new.self
      (omega arith) c.requires.within c.in_ok-piece.ensures.front c.advance-2.ensures,
  c.in_ok-piece.ensures.rest.0,
)
