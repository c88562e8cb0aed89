-- The link lies under its own key.
use Rattle.h1_client.proofs.KeyLemmas.{keyed_after}
use Rattle.h1_client.proofs.pool.Pool.put_idle.Goals as goal

pub invariant_of-self : goal.invariant_of-self
invariant_of-self g c = record {
  keyed = keyed_after c.args.key c.args.idle c.args.self.now.stacks c.put.new.self c.put.result
      c.put.ensures.ok c.put.ensures.same c.requires c.args.self.now.keyed;
}
