use Rattle.std.proofs.Common.{length-take, length-drop, arith, ℕ}
use Rattle.h1_fetch.proofs.OutputLemmas.{took_more}
use Rattle.h1_fetch.proofs.output.write_whole.Goals as goal

pub loop-at-preserved : goal.loop-at-preserved
loop-at-preserved g c = record {
  within = omega (arith, c.in-Took.ensures.fits, length-take {A = ℕ}, length-drop {A = ℕ});
  took =
      took_more _ _ _ c.args.text.now c.loop-at.at c.in-Took.count c.loop-at.invariant.took
      c.if-count-eq0.false c.in-Took.ensures.state;
}
