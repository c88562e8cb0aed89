-- Lemmas on which idle link is handed out.
use Rattle.std.proofs.Common.{◌≡◌, IfSome, ℕ, ◌+◌, ◌-◌, ◌^◌, ◌<◌, min, List, [], ◌∷◌, ◌++◌, length, Option, Some, None, refl, sym, ap, subst, ◌∙◌, arith, append_assoc, append-nil, length-append}
use Rattle.std.specs.Prelude.{unwrap_or}
use Rattle.std.proofs.lemmas.Option.{none-some}
use Rattle.h1_link.specs.LinkState.{LinkState}
use Rattle.h1_client.specs.Idle.{IdleView, is_past}
use Rattle.h1_client.specs.ClientView.{ClientView, IsNewSession}
use Rattle.h1_client.specs.Getting.{IsFoundFresh, IsNewWith}
use Rattle.h1_client.specs.Picking.{Look, AllGone, Picked, Picks, idles, unasked, all_unasked, fresh_of}
use Rattle.h1_client.specs.Pool.{under, StandsBeside, TakesLatest}
use Rattle.h1_client.specs.Probing.{Probes}
use Rattle.h1_client.specs.declared.idle.Probe.{Probe}
use Rattle.h1_client.specs.declared.idle.Probe.TheVariants.{Fresh, Past, Byte, Ended, Failed, NoMemory}
use Rattle.h1_client.specs.Settings.{idle_settings}
use Rattle.h1_client.specs.declared.settings.Peer.{Peer}
use Rattle.h1_client.specs.declared.settings.Settings.{Settings}
use Rattle.h1_client.specs.declared.stacks.Stacks.{Stacks}
use Rattle.h1_client.proofs.KeyLemmas.{fresh_same, new_with}

-- what was probed so far, all of which is gone
pub record Looked {L : Type 0} (state : L → LinkState) (key now : ℕ) (old new : Stacks L)
    (bytes : ℕ) : Type 0 where
  pub gone : List (Look L)
  pub links : under key old ≡ under key new ++ idles gone
  pub all_gone : AllGone state now gone
  pub counted : bytes ≡ min (all_unasked gone) (2 ^ 64 - 1)
  pub beside : StandsBeside key old new

-- nothing yet
pub looked_none : {L : Type 0} (state : L → LinkState) (key now : ℕ) (pool : Stacks L)
    → Looked state key now pool pool 0
looked_none state key now pool = record {
  gone = [];
  links = sym (append-nil (under key pool));
  all_gone = tt;
  counted = omega arith;
  beside = λ other apart. refl;
}

-- one link more, which stood behind those that are left
links_behind : {L : Type 0} (key : ℕ) (old mid new : Stacks L) (idle : IdleView L)
    (gone : List (IdleView L))
    → under key old ≡ under key mid ++ gone → under key mid ≡ under key new ++ idle ∷ []
    → under key old ≡ under key new ++ idle ∷ gone
links_behind key old mid new idle gone links takes =
    links ∙ ap (λ rest. rest ++ gone) takes ∙ append_assoc (under key new) (idle ∷ []) gone

-- one that is gone too
pub looked_more : {L : Type 0} (state : L → LinkState) (key now : ℕ) (old mid new : Stacks L)
    (bytes more : ℕ) (idle : IdleView L) (probe : Probe L)
    → Looked state key now old mid bytes → TakesLatest key mid new (Some idle)
    → Probes state idle probe (is_past idle.deadline now) → fresh_of probe ≡ None
    → more ≡ min (bytes + unasked probe) (2 ^ 64 - 1)
    → Looked state key now old new more
looked_more {L} state key now old mid new bytes more idle probe looked takes probes gone counts =
    let look : Look L = record { idle = idle; probe = probe } in
    record {
      gone = look ∷ looked.gone;
      links = links_behind key old mid new idle (idles looked.gone) looked.links takes.0;
      all_gone = (probes, gone, looked.all_gone);
      counted = omega (arith, counts, looked.counted);
      beside = λ other apart. takes.1 other apart ∙ looked.beside other apart;
    }

is_fresh : {L : Type 0} (probe : Probe L) (idle : IdleView L) → fresh_of probe ≡ Some idle
    → probe ≡ Fresh idle
is_fresh (Fresh other) idle is = ap (λ o. Fresh (unwrap_or o other)) is
is_fresh (Past link) idle is = absurd (none-some idle is)
is_fresh (Byte link) idle is = absurd (none-some idle is)
is_fresh (Ended link) idle is = absurd (none-some idle is)
is_fresh (Failed link) idle is = absurd (none-some idle is)
is_fresh (NoMemory link) idle is = absurd (none-some idle is)

unasked_fresh : {L : Type 0} (probe : Probe L) (idle : IdleView L) → fresh_of probe ≡ Some idle
    → unasked probe ≡ 0
unasked_fresh probe idle is = ap (λ q. unasked q) (is_fresh probe idle is)

-- one that can still be used
pub picks_fresh : {L : Type 0} (state : L → LinkState) (key now : ℕ) (old mid new : Stacks L)
    (bytes more : ℕ) (idle fresh : IdleView L) (probe : Probe L)
    → Looked state key now old mid bytes → TakesLatest key mid new (Some idle)
    → idle.key ≡ Some key
    → Probes state idle probe (is_past idle.deadline now) → fresh_of probe ≡ Some fresh
    → more ≡ min (bytes + unasked probe) (2 ^ 64 - 1)
    → Picks state key now old new (Some fresh) more
picks_fresh {L} state key now old mid new bytes more idle fresh probe looked takes keyed probes is
    counts =
    let found : Probes state idle (Fresh fresh) (is_past idle.deadline now) =
    subst (λ (p : Probe L). Probes state idle p (is_past idle.deadline now))
    (is_fresh probe fresh is) probes in
    record {
      gone = looked.gone;
      all_gone = looked.all_gone;
      picked = (
        idle,
        links_behind key old mid new idle (idles looked.gone) looked.links takes.0,
        found,
      );
      keyed = (fresh_same state idle fresh (is_past idle.deadline now) found).1 ∙ keyed;
      counted = omega (arith, counts, looked.counted, unasked_fresh probe fresh is);
      beside = λ other apart. takes.1 other apart ∙ looked.beside other apart;
    }

-- none is left
pub picks_none : {L : Type 0} (state : L → LinkState) (key now : ℕ) (old mid new : Stacks L)
    (bytes : ℕ)
    → Looked state key now old mid bytes → TakesLatest key mid new None
    → Picks state key now old new None bytes
picks_none state key now old mid new bytes looked takes = record {
  gone = looked.gone;
  all_gone = looked.all_gone;
  picked = (
    looked.links ∙ ap (λ rest. rest ++ idles looked.gone) takes.0,
    takes.1 key ∙ takes.0,
  );
  keyed = tt;
  counted = looked.counted;
  beside = λ other apart. takes.1 other ∙ looked.beside other apart;
}

-- a link that is taken out is one less under its key
pub fewer : {L : Type 0} (key : ℕ) (old new : Stacks L) (idle : IdleView L)
    → TakesLatest key old new (Some idle) → length (under key new) < length (under key old)
fewer key old new idle takes =
    let len : length (under key old) ≡ length (under key new) + 1 =
    ap (λ xs. length xs) takes.0 ∙ length-append (under key new) (idle ∷ []) in
    omega arith

-- what a session over a link that is handed out has of it
pub handed_out : {L : Type 0} (state : L → LinkState) (key now : ℕ) (old new : Stacks L)
    (answer : Option (IdleView L)) (bytes : ℕ) (idle : IdleView L)
    → Picks state key now old new answer bytes → answer ≡ Some idle
    → (before : IdleView L) × Probes state before (Fresh idle) (is_past before.deadline now)
    × (idle.key ≡ Some key)
handed_out {L} state key now old new answer bytes idle picks is =
    let picked : Picked state key now old new picks.gone (Some idle) =
    subst (λ (a : Option (IdleView L)). Picked state key now old new picks.gone a) is picks.picked in
    let keyed : idle.key ≡ Some key =
    subst (λ (a : Option (IdleView L)). IfSome a (λ i. i.key ≡ Some key)) is picks.keyed in
    (picked.0, picked.2, keyed)

-- it was found fresh in that call, and its deadline wasn't reached
pub found_fresh : {L : Type 0} (state : L → LinkState) (key now : ℕ) (old new : Stacks L)
    (answer : Option (IdleView L)) (bytes : ℕ) (idle : IdleView L) (peer : Peer)
    (session : ClientView L)
    → Picks state key now old new answer bytes → answer ≡ Some idle
    → IsNewSession idle.link (idle_settings idle.key idle.deadline peer) session
    → IsFoundFresh state now session
found_fresh {L} state key now old new answer bytes idle peer session picks is made =
    let handed = handed_out state key now old new answer bytes idle picks is in
    let same = fresh_same state handed.0 idle (is_past handed.0.deadline now) handed.1 in
    let until : session.settings.until ≡ idle.deadline =
    ap (λ (s : Settings). s.until) made.settings in
    record {
      in_time = ap (λ d. is_past d now) (until ∙ same.2) ∙ same.0;
      before = handed.0;
      found = idle;
      link = sym made.link;
      deadline = sym until;
      probes = handed.1;
    }

-- it leads to the peer that it is asked for
pub leads_to : {L : Type 0} (state : L → LinkState) (now : ℕ) (old new : Stacks L)
    (answer : Option (IdleView L)) (bytes : ℕ) (idle : IdleView L) (peer : Peer)
    (session : ClientView L)
    → Picks state peer.key now old new answer bytes → answer ≡ Some idle
    → IsNewSession idle.link (idle_settings idle.key idle.deadline peer) session
    → IsNewWith peer session.settings.until session
leads_to state now old new answer bytes idle peer session picks is made =
    new_with peer idle session made
    (handed_out state peer.key now old new answer bytes idle picks is).2
