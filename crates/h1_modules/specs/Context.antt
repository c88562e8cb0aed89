-- The modules of an exchange, in the order in which they run, each with its key.
use Rattle.std.specs.Prelude.{ℕ, List, Option, None, Some, ◌==◌, slice_get, slice_set, position}

pub record ContextView (M : Type 0) : Type 0 where
  pub keys : List ℕ
  pub modules : List M

-- where the key stands
abbrev pub place_of : ℕ → List ℕ → Option ℕ
place_of key keys = position (λ k. k == key) keys

abbrev pub module_at : {M : Type 0} → Option ℕ → List M → Option M
module_at None modules = None
module_at (Some place) modules = slice_get modules place

-- the module of the key
abbrev pub module_of : {M : Type 0} → ℕ → ContextView M → Option M
module_of key view = module_at (place_of key view.keys) view.modules

abbrev pub set_at : {M : Type 0} → Option ℕ → List M → M → List M
set_at None modules m = modules
set_at (Some place) modules m = slice_set modules place m

-- the module of the key is another, and no other module and no key changes
abbrev pub with_module : {M : Type 0} → ℕ → ContextView M → M → ContextView M
with_module key view m = record view { modules = set_at (place_of key view.keys) view.modules m }
