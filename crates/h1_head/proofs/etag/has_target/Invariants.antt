use Rattle.std.proofs.Common.{◌≡◌, ◌-◌}
use Rattle.h1_head.specs.Etag.{has_target}
use Rattle.h1_head.proofs.etag.has_target.Given as goal

-- what is left of the entries decides
abbrev pub invariant-loop : goal.invariant-loop
invariant-loop l =
    has_target (l.fn.entries - l.counter) l.target l.rest
    ≡ has_target l.fn.entries l.target l.fn.list
