use Rattle.std.proofs.Common.{◌≡◌, ◌≢◌, ℕ, ◌+◌, ◌<◌, Option, List, ◌∷◌, length, take, drop, ◌-◌, get_or, sym, ◌∙◌, add-one, refl, drop-cons, arith, ◌==◌, false}
use Rattle.std.proofs.lemmas.Bool.Decides.{nat_tests}
use Rattle.std.proofs.lemmas.Grind.{common_steps}
use Rattle.h1_escape.specs.Target.{last_mark, later_mark}
use Rattle.h1_escape.proofs.target.target_len.Goals as goal

-- one byte of the line more
mark_more : (b : ℕ) (bytes left : List ℕ) (at : ℕ) (found next : Option ℕ) → b ≢ 10
    → left ≡ b ∷ bytes → next ≡ later_mark found at left
    → last_mark found at left ≡ last_mark next (at + 1) bytes
mark_more b bytes left at found next ne shape is =
    let e : (b == 10) ≡ false = grind (arith, nat_tests) in
    rw (is, shape, e) refl

pub loop-at-preserved : goal.loop-at-preserved
loop-at-preserved c = record {
  within = omega arith;
  found_within =
      c.later_mark-found.ensures.within (length c.args.line.now) c.loop-at.invariant.found_within
      (omega arith);
  same =
      let at : c.loop-at.at < length c.args.line.now = c.loop-at-test.true in
      let cut : drop c.loop-at.at c.args.line.now
      ≡ get_or c.args.line.now c.loop-at.at 0 ∷ drop (c.loop-at.at + 1) c.args.line.now =
      rw add-one (drop-cons c.args.line.now c.loop-at.at 0 at) in
      let all : take (length c.args.line.now - c.loop-at.at) (drop c.loop-at.at c.args.line.now)
      ≡ drop c.loop-at.at c.args.line.now = grind (arith, common_steps) in
      sym (mark_more _ _ _ c.loop-at.at c.loop-at.found _ c.if-line-at-ne10.true cut
      (rw all at c.later_mark-found.ensures.exact)) ∙ c.loop-at.invariant.same;
}
