use Rattle.std.proofs.Common.{◌≡◌, drop}
use Rattle.h1_modules.specs.Builders.{has_key}
use Rattle.h1_modules.proofs.builders.has_key.Given as goal

abbrev pub invariant-loop-builder : goal.invariant-loop-builder
invariant-loop-builder g l =
    has_key g.B.HttpModuleBuilder.key l.key (drop l.builder-index l.builders)
    ≡ has_key g.B.HttpModuleBuilder.key l.key l.builders
