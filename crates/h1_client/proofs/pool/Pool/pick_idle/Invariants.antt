-- The links that were probed are gone, and stood behind those that are left under the key.
use Rattle.std.proofs.Common.{length}
use Rattle.h1_client.specs.Pool.{under}
use Rattle.h1_client.proofs.PickLemmas.{Looked}
use Rattle.h1_client.proofs.pool.Pool.pick_idle.Given as goal

abbrev pub invariant-picks : goal.invariant-picks
invariant-picks g l =
    Looked g.L.Link.state l.key l.now l.fn.self.stacks l.self.stacks l.unasked

abbrev pub decreases-picks : goal.decreases-picks
decreases-picks g l = length (under l.key l.self.stacks)
