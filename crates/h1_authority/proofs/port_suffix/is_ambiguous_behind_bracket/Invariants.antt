use Rattle.std.proofs.Common.{◌≡◌, drop}
use Rattle.h1_authority.specs.PortSuffix.{is_ambiguous_behind_bracket}
use Rattle.h1_authority.proofs.port_suffix.is_ambiguous_behind_bracket.Given as goal

abbrev pub invariant-loop-at : goal.invariant-loop-at
invariant-loop-at l =
    is_ambiguous_behind_bracket (drop l.at l.bytes) ≡ is_ambiguous_behind_bracket l.bytes
