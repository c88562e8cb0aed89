use Rattle.h1_link.proofs.Laters.{later_read, later_write}
use Rattle.h1_link.proofs.laws.calls_only_add.Goals as goal

pub returns-clause-read : goal.returns-clause-read
returns-clause-read c = later_read

pub returns-clause-write : goal.returns-clause-write
returns-clause-write c = later_write
