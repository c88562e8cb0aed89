use Rattle.std.proofs.Common.{◌≡◌, ◌++◌, take, drop}
use Rattle.h1_modules.specs.Builders.{placed}
use Rattle.h1_modules.proofs.builders.place_for.Given as goal

abbrev pub invariant-loop-place : goal.invariant-loop-place
invariant-loop-place g l =
    take l.place l.builders ++ placed g.B.HttpModuleBuilder.order l.added (drop l.place l.builders)
    ≡ placed g.B.HttpModuleBuilder.order l.added l.builders
