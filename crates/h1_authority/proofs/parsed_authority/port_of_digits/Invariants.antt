use Rattle.std.proofs.Common.{◌≡◌, drop, Some}
use Rattle.h1_authority.specs.ParsedAuthority.{port_from}
use Rattle.h1_authority.proofs.parsed_authority.port_of_digits.Given as goal

abbrev pub invariant-loop-byte : goal.invariant-loop-byte
invariant-loop-byte l =
    port_from (Some l.port) (drop l.byte-index l.digits) ≡ port_from (Some 0) l.digits
