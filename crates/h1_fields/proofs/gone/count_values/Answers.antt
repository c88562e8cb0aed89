use Rattle.std.proofs.Common.{◌≤◌, length, inl, arith}
use Rattle.h1_fields.proofs.LivingLemmas.{values_shorter}
use Rattle.h1_fields.proofs.gone.count_values.Goals as goal

pub count-requires-clause-fits : goal.count-requires-clause-fits
count-requires-clause-fits c =
    let short : length c.new.result ≤ length c.args.spans.now =
    values_shorter _ _ _ _ _ c.new.ensures in
    inl (omega (arith, short))
