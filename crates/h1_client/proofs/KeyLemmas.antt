-- Lemmas on the keys under which idle links lie.
use Rattle.std.proofs.Common.{◌≡◌, ℕ, [], ◌∷◌, ◌++◌, All, Bool, true, false, Option, Some, None, IfSome, Result, Ok, Err, OnOk, OnErr, inl, inr, refl, sym, ap, subst, ◌∙◌}
use Rattle.std.specs.Prelude.{unwrap_or}
use Rattle.std.proofs.lemmas.Bool.Decides.{eqb_tells}
use Rattle.std.proofs.lemmas.List.Elements.{All-nil, All-pop, All-push, All-same}
use Rattle.std.proofs.lemmas.Option.{none-some}
use Rattle.h1_error.specs.declared.error.Error.{Error}
use Rattle.h1_link.specs.LinkState.{LinkState}
use Rattle.h1_link.specs.declared.link.ReadStep.{ReadStep}
use Rattle.h1_link.specs.declared.link.ReadStep.TheVariants as read
use Rattle.h1_client.specs.ClientView.{ClientView, IsNewSession}
use Rattle.h1_client.specs.Getting.{IsNewWith}
use Rattle.h1_client.specs.Idle.{IdleView}
use Rattle.h1_client.specs.Picking.{fresh_of}
use Rattle.h1_client.specs.Pool.{AreKeyed, IsEmpty, PutsLatest, StandsWhole, TakesLatest, under}
use Rattle.h1_client.specs.Probing.{Probes, told_by}
use Rattle.h1_client.specs.Settings.{idle_settings}
use Rattle.h1_client.specs.declared.idle.Probe.TheVariants.{Fresh}
use Rattle.h1_client.specs.declared.settings.Peer.{Peer}
use Rattle.h1_client.specs.declared.settings.Settings.{Settings}
use Rattle.h1_client.specs.declared.stacks.Stacks.{Stacks}
use Rattle.h1_transfer.specs.TransferView.{IsNewTransfer}

-- no link lies there
pub keyed_none : {L : Type 0} (pool : Stacks L) → IsEmpty pool → AreKeyed pool
keyed_none {L} pool empty key =
    All-same (λ (idle : IdleView L). idle.key ≡ Some key) (under key pool) [] (empty key)
    (All-nil (λ (idle : IdleView L). idle.key ≡ Some key))

-- all links stand
pub keyed_same : {L : Type 0} (old new : Stacks L) → StandsWhole old new → AreKeyed old
    → AreKeyed new
keyed_same {L} old new stands keyed key =
    All-same (λ (i : IdleView L). i.key ≡ Some key) (under key new) (under key old) (stands key)
    (keyed key)

-- a link is put under the key of its peer
pub keyed_put : {L : Type 0} (key : ℕ) (idle : IdleView L) (old new : Stacks L)
    → PutsLatest key idle old new → idle.key ≡ Some key → AreKeyed old → AreKeyed new
keyed_put {L} key idle old new puts is keyed other = elim (eqb_tells other key) [
  | inl same ↦ subst (λ k. All (λ (i : IdleView L). i.key ≡ Some k) (under k new)) (sym same.1)
      (All-same (λ (i : IdleView L). i.key ≡ Some key) (under key new) (under key old ++ idle ∷ [])
      puts.0 (All-push (λ (i : IdleView L). i.key ≡ Some key) (under key old) idle (keyed key) is))
  | inr apart ↦ All-same (λ (i : IdleView L). i.key ≡ Some other) (under other new)
      (under other old) (puts.1 other apart.1) (keyed other)
]

-- by what putting one answered
pub keyed_after : {L : Type 0} (key : ℕ) (idle : IdleView L) (old new : Stacks L)
    (answer : Result (Unit {0}) Error)
    → OnOk answer (PutsLatest key idle old new) → OnErr answer (StandsWhole old new)
    → idle.key ≡ Some key → AreKeyed old → AreKeyed new
keyed_after key idle old new (Ok done) puts same is keyed = keyed_put key idle old new puts is keyed
keyed_after key idle old new (Err error) puts same is keyed = keyed_same old new same keyed

-- the latest link under a key, and those before it
popped : {L : Type 0} (key : ℕ) (old new : Stacks L) (idle : IdleView L)
    → TakesLatest key old new (Some idle) → AreKeyed old
    → All (λ (i : IdleView L). i.key ≡ Some key) (under key new) × (idle.key ≡ Some key)
popped {L} key old new idle takes keyed =
    All-pop (λ (i : IdleView L). i.key ≡ Some key) (under key old) (under key new) (Some idle)
    takes.0 (keyed key)

-- a link is taken out, if there is one
pub keyed_left : {L : Type 0} (key : ℕ) (old new : Stacks L) (answer : Option (IdleView L))
    → TakesLatest key old new answer → AreKeyed old → AreKeyed new
keyed_left key old new None takes keyed other = keyed_same old new takes.1 keyed other
keyed_left {L} key old new (Some idle) takes keyed other = elim (eqb_tells other key) [
  | inl same ↦ subst (λ k. All (λ (i : IdleView L). i.key ≡ Some k) (under k new)) (sym same.1)
      (popped key old new idle takes keyed).0
  | inr apart ↦ All-same (λ (i : IdleView L). i.key ≡ Some other) (under other new)
      (under other old) (takes.1 other apart.1) (keyed other)
]

-- and leads to the peer of that key
pub keyed_taken : {L : Type 0} (key : ℕ) (old new : Stacks L) (answer : Option (IdleView L))
    → TakesLatest key old new answer → AreKeyed old → IfSome answer (λ idle. idle.key ≡ Some key)
keyed_taken key old new None takes keyed = tt
keyed_taken key old new (Some idle) takes keyed = (popped key old new idle takes keyed).1

-- what a look leaves of an idle link: all but the link itself
told_same : {L : Type 0} (before found : IdleView L) (step : ReadStep)
    → Fresh found ≡ told_by step before found.link
    → (found.key ≡ before.key) × (found.deadline ≡ before.deadline)
told_same before found (read.Got n) is = absurd (none-some found (sym (ap (λ q. fresh_of q) is)))
told_same before found read.End is = absurd (none-some found (sym (ap (λ q. fresh_of q) is)))
told_same {L} before found read.NotReady is =
    let same : found ≡ record before { link = found.link } =
    ap (λ q. unwrap_or (fresh_of q) found) is in
    (ap (λ (i : IdleView L). i.key) same, ap (λ (i : IdleView L). i.deadline) same)
told_same before found read.Failed is = absurd (none-some found (sym (ap (λ q. fresh_of q) is)))
told_same before found read.NoMemory is = absurd (none-some found (sym (ap (λ q. fresh_of q) is)))

-- a link that is found fresh: its deadline isn't reached, and it keeps it, and its key
pub fresh_same : {L : Type 0} (state : L → LinkState) (before found : IdleView L) (past : Bool)
    → Probes state before (Fresh found) past
    → (past ≡ false) × (found.key ≡ before.key) × (found.deadline ≡ before.deadline)
fresh_same state before found true probes =
    absurd (none-some found (sym (ap (λ q. fresh_of q) probes)))
fresh_same state before found false probes =
    let told = told_same before found probes.step probes.told in
    (refl, told.0, told.1)

-- a new session over a link that stood under the key of this peer
pub new_with : {L : Type 0} (peer : Peer) (idle : IdleView L) (session : ClientView L)
    → IsNewSession idle.link (idle_settings idle.key idle.deadline peer) session
    → idle.key ≡ Some peer.key → IsNewWith peer session.settings.until session
new_with {L} peer idle session new key =
    let until : session.settings.until ≡ idle.deadline =
    ap (λ (s : Settings). s.until) new.settings in
    record {
      link = refl;
      transfer = subst (λ l. IsNewTransfer l session.transfer) (sym new.link) new.transfer;
      request = new.request;
      in_time = new.in_time;
      unwaited = new.unwaited;
      response = new.response;
      unrefused = new.unrefused;
      keepalive = new.keepalive;
      settings = new.settings ∙ ap (λ k. idle_settings k idle.deadline peer) key
          ∙ ap (λ u. idle_settings (Some peer.key) u peer) (sym until);
      unread = new.unread;
      spent = new.spent;
    }
