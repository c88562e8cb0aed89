use Rattle.std.proofs.Common.{◌≡◌, codes}
use Rattle.h1_authority.specs.AuthorityFault.{hosts_behind, hosts_seen, no_host}
use Rattle.h1_fields.specs.Lines.{values_of}
use Rattle.h1_head.proofs.request_checks.hosts_among.Given as goal

abbrev pub invariant-loop-value : goal.invariant-loop-value
invariant-loop-value l =
    hosts_behind (hosts_seen l.hosts) l.value-iterator
    ≡ hosts_behind no_host (values_of (codes "Host") l.fields)
