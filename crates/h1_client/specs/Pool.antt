-- The links that stand idle in a pool, each under its peer's key.
use Rattle.std.specs.Prelude.{◌≡◌, ◌≢◌, ℕ, List, [], ◌∷◌, ◌++◌, Option, Some, None}
use Rattle.std.specs.List.{All}
use Rattle.std.specs.Ordering.{nat_cmp}
use Rattle.std.specs.Global.{Vec}
use Rattle.std.specs.BTreeMap.{get}
use Rattle.h1_client.specs.Idle.{IdleView}
use Rattle.h1_client.specs.declared.stacks.Stacks.{Stacks}

-- the links of a stack
abbrev pub links_in : {L : Type 0} → Option (Vec (IdleView L)) → List (IdleView L)
links_in None = []
links_in (Some stack) = stack.items

-- those under a key, the earliest release first
abbrev pub under : {L : Type 0} → ℕ → Stacks L → List (IdleView L)
under key pool = links_in (get nat_cmp pool.by_key key)

-- each link lies under the key of its own peer
abbrev pub AreKeyed : {L : Type 0} → Stacks L → Type 0
AreKeyed pool = (key : ℕ) → All (λ idle. idle.key ≡ Some key) (under key pool)

-- no link is in the pool
abbrev pub IsEmpty : {L : Type 0} → Stacks L → Type 0
IsEmpty pool = (key : ℕ) → under key pool ≡ []

-- all that isn't under this key stands
abbrev pub StandsBeside : {L : Type 0} → ℕ → Stacks L → Stacks L → Type 0
StandsBeside key old new = (other : ℕ) → other ≢ key → under other new ≡ under other old

-- all stands
abbrev pub StandsWhole : {L : Type 0} → Stacks L → Stacks L → Type 0
StandsWhole old new = (key : ℕ) → under key new ≡ under key old

-- the link is the latest release under the key
abbrev pub PutsLatest : {L : Type 0} → ℕ → IdleView L → Stacks L → Stacks L → Type 0
PutsLatest key idle old new =
    (under key new ≡ under key old ++ idle ∷ []) × StandsBeside key old new

-- the latest release under the key is taken out, or there is none
abbrev pub TakesLatest : {L : Type 0} → ℕ → Stacks L → Stacks L → Option (IdleView L) → Type 0
TakesLatest key old new (Some idle) =
    (under key old ≡ under key new ++ idle ∷ []) × StandsBeside key old new
TakesLatest key old new None = (under key old ≡ []) × StandsWhole old new
