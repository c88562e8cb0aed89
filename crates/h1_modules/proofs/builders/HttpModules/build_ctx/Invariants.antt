use Rattle.std.proofs.Common.{◌≡◌, map, take}
use Rattle.h1_modules.proofs.builders.HttpModules.build_ctx.Given as goal

abbrev pub invariant-loop-builder : goal.invariant-loop-builder
invariant-loop-builder g l =
    (l.keys.items ≡ map g.B.HttpModuleBuilder.key (take l.builder-index l.builder-items))
    × (l.modules.items ≡ map g.B.HttpModuleBuilder.begins (take l.builder-index l.builder-items))
