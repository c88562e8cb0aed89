use Rattle.std.proofs.Common.{length, ap, arith}
use Rattle.h1_fields.proofs.LivingLemmas.{with_line_short}
use Rattle.h1_fields.proofs.fields.Fields.insert.Goals as goal

pub invariant_of-self-in-Some : goal.invariant_of-self-in-Some
invariant_of-self-in-Some c =
    let short = with_line_short c.args.name.now c.args.value.now c.in-Some.block.now in
    omega (
      arith,
      short,
      ap length c.in_ok-insert-in-Shared.ensures.ok,
      ap length c.in-Some.ensures.value,
      c.if-len-lt-MAX_SHARED_LINES.true,
      c.len.ensures,
      ap length c.deref.ensures,
    )
