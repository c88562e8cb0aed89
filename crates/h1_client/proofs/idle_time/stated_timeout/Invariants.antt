use Rattle.std.proofs.Common.{◌≡◌}
use Rattle.h1_client.specs.Keeping.{after_parts, stated_timeout}
use Rattle.h1_client.proofs.idle_time.stated_timeout.Given as goal

abbrev pub invariant-loop-part : goal.invariant-loop-part
invariant-loop-part l =
    after_parts l.known l.part-iterator ≡ stated_timeout l.fields
