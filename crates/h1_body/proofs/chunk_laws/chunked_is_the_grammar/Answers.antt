use Rattle.h1_body.specs.declared.chunking.Chunking.TheVariants.{Start}
use Rattle.h1_body.proofs.TrailerRuns.{body_is_read}
use Rattle.h1_body.proofs.MachineLemmas.{stable}
use Rattle.h1_body.proofs.LawLemmas.{only_bodies, live, dead, first_break}
use Rattle.h1_body.proofs.chunk_laws.chunked_is_the_grammar.Goals as goal

pub returns-clause-only : goal.returns-clause-only
returns-clause-only c = only_bodies

pub returns-clause-all : goal.returns-clause-all
returns-clause-all c = body_is_read

pub returns-clause-live : goal.returns-clause-live
returns-clause-live c = live

pub returns-clause-dead : goal.returns-clause-dead
returns-clause-dead c = dead

pub returns-clause-edge : goal.returns-clause-edge
returns-clause-edge c = first_break

pub returns-clause-stable : goal.returns-clause-stable
returns-clause-stable c = stable Start
