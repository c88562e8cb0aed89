use Rattle.h1_asking.proofs.ReadLemmas.{part_on}
use Rattle.h1_asking.proofs.StillLemmas.{part_wrote}
use Rattle.h1_asking.proofs.turns.read_piece.Goals as goal

pub returns-clause-reads : goal.returns-clause-reads
returns-clause-reads g c before request said payload asked is far =
    part_on g.L.Link.state before request said payload c.args.now c.args.session.now
    c.poll_read_body_bytes.new.self c.poll_read_body_bytes.result c.poll_read_body_bytes.ensures.reads
    asked is far

pub returns-clause-wrote : goal.returns-clause-wrote
returns-clause-wrote g c =
    part_wrote g.L.Link.state c.args.now c.args.session.now c.poll_read_body_bytes.new.self
    c.poll_read_body_bytes.result c.poll_read_body_bytes.ensures.reads
