-- What a context ends as, where a `&mut` to one of its modules is returned.
use Rattle.std.specs.Prelude.{ℕ, Option}
use Rattle.std.specs.Borrow.{LendsIf, Fml, RattleType, MutBor}
use Rattle.h1_modules.specs.contracts.context.HttpModuleCtx.{the_row}
use Rattle.h1_modules.specs.Context.{ContextView, with_module}

-- the module of the key is the last value written through r, and at `None` the context stays
abbrev pub lends_module : (M : RattleType) → MutBor (ContextView M.Denot) → ℕ
    → Option (MutBor M.Denot) → Fml
lends_module M s key r = LendsIf (the_row M) M s r (with_module key s.now) s.now
