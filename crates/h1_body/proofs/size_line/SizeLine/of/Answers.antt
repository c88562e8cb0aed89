use Rattle.std.proofs.Common.{◌≡◌, ◌/◌, ◌+◌, ◌∙◌, length, refl, arith, length-set, ℕ}
use Rattle.std.specs.Int.Digits.{digits_of}
use Rattle.h1_body.proofs.WireLemmas.{digit_put, digits_put, digits_fewer, digits_within}
use Rattle.h1_body.proofs.size_line.SizeLine.of.Goals as goal

pub loop-left-init : goal.loop-left-init
loop-left-init c = record {
  whole = refl;
  room = digits_within c.args.size (omega arith);
  in_line = omega arith;
  long =
      refl;
}

pub overflow_sub-at : goal.overflow_sub-at
overflow_sub-at c = omega (arith, digits_fewer c.loop-left.left c.loop-left-test.true)

pub loop-left-preserved : goal.loop-left-preserved
loop-left-preserved c =
    let fewer : length (digits_of 16 c.loop-left.left) ≡ length
    (digits_of 16 (c.loop-left.left / 16)) + 1 =
    digits_fewer c.loop-left.left c.loop-left-test.true in
    record {
      whole = digit_put c.loop-left.bytes c.loop-left.at c.loop-left.left c.upper_digit.result
          c.loop-left-test.true (omega arith) (omega arith) c.upper_digit.ensures
          ∙ c.loop-left.invariant.whole;
      room = omega arith;
      in_line = omega arith;
      long = omega (arith, length-set {A = ℕ});
    }

pub returns : goal.returns
returns c = digits_put c.loop-left.left _ _ c.loop-left-test.false c.loop-left.invariant.whole
