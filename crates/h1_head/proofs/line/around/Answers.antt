use Rattle.std.proofs.Common.{◌≡◌, ◌==◌, false, get_or, rules}
use Rattle.std.proofs.lemmas.List.Elements.{All-more}
use Rattle.h1_head.proofs.PartLemmas.{part_before, part_whole}
use Rattle.h1_head.proofs.line.around.Goals as goal

pub returns-then-other-byte-clause-parts : goal.returns-then-other-byte-clause-parts
returns-then-other-byte-clause-parts c =
    part_before _ _ _ c.loop-at-test.true c.loop-at.invariant c.if-other-byte.true

pub loop-at-preserved : goal.loop-at-preserved
loop-at-preserved c =
    let other : (get_or c.args.bytes.now c.loop-at.at 0 == c.args.byte) ≡ false = search rules in
    All-more (λ b. (b == c.args.byte) ≡ false) _ _ 0 c.loop-at-test.true c.loop-at.invariant other

pub returns-clause-parts : goal.returns-clause-parts
returns-clause-parts c = part_whole _ _ _ c.loop-at-test.false c.loop-at.invariant
