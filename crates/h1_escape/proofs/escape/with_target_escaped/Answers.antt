use Rattle.std.proofs.Common.{arith, append-nil}
use Rattle.std.proofs.lemmas.Grind.{common_steps}
use Rattle.std.proofs.lemmas.List.Elements.{All-from_get_or}
use Rattle.percent_encoding.proofs.PercentLemmas.{IsByte}
use Rattle.h1_escape.proofs.EscapeLemmas.{escaped_from_set}
use Rattle.h1_escape.proofs.escape.with_target_escaped.Goals as goal

pub returns : goal.returns
returns c =
    let bytes =
    All-from_get_or IsByte c.args.target.now 0 (λ i within. omega (arith, c.type_inv.target i)) in
    let same = escaped_from_set c.args.target.now bytes in
    let whole = rw (c.in-None.ensures.steps, append-nil) at c.loop-piece.invariant in
    grind (arith, common_steps)
