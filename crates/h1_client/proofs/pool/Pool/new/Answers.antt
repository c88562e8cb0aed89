-- No link is there.
use Rattle.h1_client.proofs.KeyLemmas.{keyed_none}
use Rattle.h1_client.proofs.pool.Pool.new.Goals as goal

pub invariant_of-result : goal.invariant_of-result
invariant_of-result g c = record { keyed = keyed_none c.new.result c.new.ensures }
