-- A body at its end takes nothing more.
use Rattle.std.proofs.Common.{[]}
use Rattle.h1_transfer.proofs.BodyLemmas.{reads_body_itself}
use Rattle.h1_transfer.proofs.reading_body.drain_body.Goals as goal

pub returns-in-Done-clause-reads : goal.returns-in-Done-clause-reads
returns-in-Done-clause-reads g c = ([], reads_body_itself _ _ _ _ _)
