-- What asking for a session with a peer answers, and what releasing one does.
use Rattle.std.specs.Prelude.{◌≡◌, ℕ, Bool, true, false, Option, Some, None, Result, Ok, Err}
use Rattle.futures.specs.declared.task.Poll.{Poll}
use Rattle.futures.specs.declared.task.Poll.TheVariants.{Pending, Ready}
use Rattle.h1_error.specs.declared.error.ConnectFault.TheVariants.{DialFailed}
use Rattle.h1_error.specs.declared.error.Error.{Error}
use Rattle.h1_error.specs.declared.error.ErrorType.{ErrorType}
use Rattle.h1_error.specs.declared.error.ErrorType.TheVariants as kind
use Rattle.h1_link.specs.Counts.{Rose}
use Rattle.h1_link.specs.DialerState.{DialerState}
use Rattle.h1_link.specs.LinkState.{LinkState, IsFresh}
use Rattle.h1_client.specs.ClientView.{ClientView, IsNewSession}
use Rattle.h1_client.specs.Idle.{IdleView, is_past}
use Rattle.h1_client.specs.Probing.{Probes}
use Rattle.h1_client.specs.Reusing.{is_reusable, respected}
use Rattle.h1_client.specs.Served.{IsServed}
use Rattle.h1_client.specs.Settings.{idle_settings}
use Rattle.h1_client.specs.declared.idle.Probe.TheVariants.{Fresh}
use Rattle.h1_client.specs.declared.settings.Peer.{Peer}

-- a new session with this peer, under whose key its link stands, over one that may stand idle until
-- this moment
abbrev pub IsNewWith : {L : Type 0} → Peer → Option ℕ → ClientView L → Type 0
IsNewWith peer until session =
    IsNewSession session.transfer.link (idle_settings (Some peer.key) until peer) session

-- over a link that took and gave whole exchanges and nothing else
abbrev pub IsReused : {L : Type 0} → (L → LinkState) → Peer → ClientView L → Type 0
IsReused state peer session =
    IsNewWith peer session.settings.until session × IsServed (state session.transfer.link)

-- over a link that was dialled just now
abbrev pub IsDialled : {L : Type 0} → (L → LinkState) → Peer → ClientView L → Type 0
IsDialled state peer session =
    IsNewWith peer None session × IsFresh (state session.transfer.link)

-- a look found the link of this session fresh at this moment: the deadline that the session tells
-- wasn't reached, and a read of one byte was not ready
pub record IsFoundFresh {L : Type 0} (state : L → LinkState) (now : ℕ) (session : ClientView L)
    : Type 0 where
  pub in_time : is_past session.settings.until now ≡ false
  pub before : IdleView L
  pub found : IdleView L
  pub link : found.link ≡ session.transfer.link
  pub deadline : found.deadline ≡ session.settings.until
  pub probes : Probes state before (Fresh found) (is_past before.deadline now)

-- a link that was used before was looked at in this call
abbrev pub IsLookedAt : {L : Type 0} → (L → LinkState) → ℕ
    → Poll (Result (ClientView L × Bool) Error) → Type 0
IsLookedAt state now (Ready (Ok (session, true))) = IsFoundFresh state now session
IsLookedAt state now (Ready (Ok (session, false))) = Unit {0}
IsLookedAt state now (Ready (Err error)) = Unit {0}
IsLookedAt state now Pending = Unit {0}

-- when each refusal comes
abbrev pub GetRefusal : DialerState → DialerState → ErrorType → Type 0
GetRefusal before now (kind.ConnectError DialFailed) = Rose before.dial_faults now.dial_faults
GetRefusal before now kind.NoMemory = now ≡ before
GetRefusal before now _ = ⊥

-- A link that was used before is handed out without a dial, and none waits without one.
abbrev pub GetAnswer : {L D : Type 0} → (L → LinkState) → (D → DialerState) → Peer → D → D
    → Poll (Result (ClientView L × Bool) Error) → Type 0
GetAnswer state dials peer before now (Ready (Ok (session, true))) =
    IsReused state peer session × (now ≡ before)
GetAnswer state dials peer before now (Ready (Ok (session, false))) =
    IsDialled state peer session × (dials now ≡ dials before)
GetAnswer state dials peer before now (Ready (Err error)) =
    GetRefusal (dials before) (dials now) error.kind × (error.retry ≡ false)
GetAnswer state dials peer before now Pending =
    Rose (dials before).dial_waits (dials now).dial_waits

-- the link of a session is to stand idle
abbrev pub is_kept : {L : Type 0} → ClientView L → Bool
is_kept session = is_reusable (respected session)
