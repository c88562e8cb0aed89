-- Which of the idle links under a key is handed out.
use Rattle.std.specs.Prelude.{◌≡◌, ℕ, ◌+◌, ◌-◌, ◌^◌, min, List, [], ◌∷◌, ◌++◌, map, Option, Some, None, IfSome}
use Rattle.h1_link.specs.LinkState.{LinkState}
use Rattle.h1_client.specs.Idle.{IdleView, is_past}
use Rattle.h1_client.specs.Pool.{under, StandsBeside}
use Rattle.h1_client.specs.Probing.{Probes}
use Rattle.h1_client.specs.declared.idle.Probe.{Probe}
use Rattle.h1_client.specs.declared.idle.Probe.TheVariants.{Fresh, Past, Byte, Ended, Failed, NoMemory}
use Rattle.h1_client.specs.declared.stacks.Stacks.{Stacks}

-- a link that was probed, and what the probe answered
pub record Look (L : Type 0) : Type 0 where
  pub idle : IdleView L
  pub probe : Probe L

-- the link that can still be used
abbrev pub fresh_of : {L : Type 0} → Probe L → Option (IdleView L)
fresh_of (Fresh idle) = Some idle
fresh_of (Past link) = None
fresh_of (Byte link) = None
fresh_of (Ended link) = None
fresh_of (Failed link) = None
fresh_of (NoMemory link) = None

-- how many bytes a probe found that no request asked for
abbrev pub unasked : {L : Type 0} → Probe L → ℕ
unasked (Fresh idle) = 0
unasked (Past link) = 0
unasked (Byte link) = 1
unasked (Ended link) = 0
unasked (Failed link) = 0
unasked (NoMemory link) = 0

abbrev pub all_unasked : {L : Type 0} → List (Look L) → ℕ
all_unasked [] = 0
all_unasked (look ∷ looks) = unasked look.probe + all_unasked looks

-- each was probed, and none can be used any more
abbrev pub AllGone : {L : Type 0} → (L → LinkState) → ℕ → List (Look L) → Type 0
AllGone state now [] = Unit {0}
AllGone state now (look ∷ looks) =
    Probes state look.idle look.probe (is_past look.idle.deadline now)
    × (fresh_of look.probe ≡ None) × AllGone state now looks

-- the links that were probed
abbrev pub idles : {L : Type 0} → List (Look L) → List (IdleView L)
idles looks = map (λ look. look.idle) looks

-- The latest release that can still be used is handed out, and those behind it are gone. None is
-- handed out exactly where all under the key are gone.
abbrev pub Picked : {L : Type 0} → (L → LinkState) → ℕ → ℕ → Stacks L → Stacks L → List (Look L)
    → Option (IdleView L) → Type 0
Picked {L} state key now old new gone (Some idle) =
    (before : IdleView L)
    × (under key old ≡ under key new ++ before ∷ idles gone)
    × Probes state before (Fresh idle) (is_past before.deadline now)
Picked state key now old new gone None = (under key old ≡ idles gone) × (under key new ≡ [])

pub record Picks {L : Type 0} (state : L → LinkState) (key now : ℕ) (old new : Stacks L)
    (answer : Option (IdleView L)) (bytes : ℕ) : Type 0 where
  -- the links that are gone, the earliest release first
  pub gone : List (Look L)
  pub all_gone : AllGone state now gone
  pub picked : Picked state key now old new gone answer
  -- the link leads to the peer of this key
  pub keyed : IfSome answer (λ idle. idle.key ≡ Some key)
  pub counted : bytes ≡ min (all_unasked gone) (2 ^ 64 - 1)
  pub beside : StandsBeside key old new
