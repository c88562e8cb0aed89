use Rattle.std.proofs.Common.{◌<◌, ◌+◌, ◌*◌, ◌^◌, arith}
use Rattle.h1_fields.proofs.LivingLemmas.{hidden_fits}
use Rattle.h1_fields.proofs.gone.+hide.Goals.{then-is_named, else-is_named}
use Rattle.h1_fields.proofs.gone.+hide.Goals as goal

pub overflow_mul-result : goal.overflow_mul-result
overflow_mul-result t c =
    let fits : 2 * c.hide-behind.result + 1 < 2 ^ 64 =
    hidden_fits _ _ _ _ _ _ _ c.in-Some.ensures.cases.0 c.requires.few c.ranges.gone.fits
    c.hide-behind.ensures in
    omega (arith, fits)

pub overflow_add-result : goal.overflow_add-result
overflow_add-result t c =
    let fits : 2 * c.hide-behind.result + 1 < 2 ^ 64 =
    hidden_fits _ _ _ _ _ _ _ c.in-Some.ensures.cases.0 c.requires.few c.ranges.gone.fits
    c.hide-behind.ensures in
    elim c.if-is_named.branch [
      | then-is_named w ↦ omega (arith, fits, w.bit-is)
      | else-is_named w ↦ omega (arith, fits, w.bit-is)
    ]
