-- What is left lies under its own key, as what is taken did.
use Rattle.h1_client.proofs.KeyLemmas.{keyed_left, keyed_taken}
use Rattle.h1_client.proofs.pool.Pool.take_idle.Goals as goal

pub invariant_of-self : goal.invariant_of-self
invariant_of-self g c = record {
  keyed = keyed_left c.args.key c.args.self.now.stacks c.take.new.self c.take.result c.take.ensures c.args.self.now.keyed;
}

pub returns-clause-keyed : goal.returns-clause-keyed
returns-clause-keyed g c =
    keyed_taken c.args.key c.args.self.now.stacks c.take.new.self c.take.result c.take.ensures c.args.self.now.keyed
