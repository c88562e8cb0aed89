use Rattle.h1_body.proofs.ReadLemmas.{read_none, read_on, read_is, ended_is}
use Rattle.h1_body.proofs.laws.readings_join.Goals as goal

pub returns-clause-first : goal.returns-clause-first
returns-clause-first c = read_none

pub returns-clause-next : goal.returns-clause-next
returns-clause-next c = read_on

pub returns-clause-now : goal.returns-clause-now
returns-clause-now c = read_is

pub returns-clause-end : goal.returns-clause-end
returns-clause-end c = ended_is
