-- A connection stays sound where only its link and its budget changed; and what a sound one shows of
-- the exchange that goes on.
use Rattle.std.proofs.Common.{◌≡◌, ℕ, List, Option, None, Some, IfNone, IfSome, IsSome, refl}
use Rattle.h1_app.specs.Words.{Given, Rules, End, SessionView, Reply, Request, Entry, Exchange, Stage, IsAllowed, Terms}
use Rattle.h1_application.specs.Application.{Runs}
use Rattle.h1_app.specs.Answering.{bare, IsAskedIn}
use Rattle.h1_app.specs.declared.exchange.Stage.TheVariants as stage
use Rattle.h1_app.proofs.Words.{Chain, Sound, SoundStage, SoundWith, rules_with}

-- what is sound says nothing of the link and the budget
sound_linked : {L C J : Type 0} (rules : Rules)
    (runs : Runs J) (terms : Terms)
    (session : SessionView L C) (link : L) (budget : Option ℕ) (done : List Entry)
    (last : Option Entry) (at : Stage J) (end : Option End)
    → Sound rules runs terms session done last at end
    → Sound rules runs terms (record session { link = link; budget = budget }) done last at end
sound_linked rules runs terms session link budget done last at end s = record {
  ended = s.ended;
  allowed = s.allowed;
  kept = s.kept;
  begun = s.begun;
  stage = s.stage;
  next = s.next;
}

-- nor does it say anything of the modules that stands on them
pub sound_linked_with : {L C J M : Type 0} (gives : Given → Reply → Type 0)
    (runs : Runs J) (chain : Chain M) (terms : Terms)
    (x : Exchange L J C) (link : L) (budget : Option ℕ) (modules : List M) (end : Option End)
    → SoundWith gives runs chain terms x modules end
    → SoundWith gives runs chain terms
    (record x { session = record x.session { link = link; budget = budget } }) modules end
sound_linked_with gives runs chain terms x link budget modules end s = record {
  sound = sound_linked (rules_with gives chain) runs terms x.session link budget x.transcript.done
      x.transcript.last x.stage end s.sound;
  stand = s.stand;
  holding = s.holding;
}

-- the exchange that goes on has a head for its application
module _ {L C J : Type 0} (rules : Rules)
    (runs : Runs J) (session : SessionView L C)
    (last : Option Entry) where
  one : (e : Entry) → last ≡ Some e → IsSome e.filtered → IfSome last (λ e. IsSome e.filtered)
  one e is given = rw is given

  asked : (e : Entry) (request : Request) → IsAskedIn e (bare session) request → IsSome e.filtered
  asked e request h = rw h.filtered refl

  replied : (e : Entry) (reply : Reply) → IsAllowed rules e → e.reply ≡ Some reply
      → IsSome e.filtered
  replied e reply allowed is =
      let given = rw is at allowed.reply in
      rw given.1 refl

  given_at : (at : Stage J) → IfSome last (IsAllowed rules) → SoundStage runs session last at
      → IfSome last (λ e. IsSome e.filtered)
  given_at stage.Head allowed h = rw h.0 tt
  given_at (stage.Answer job) allowed h = one h.0 h.1 (asked h.0 h.2.request h.2.asked)
  given_at stage.TakeHeader allowed h = one h.0 h.1 (asked h.0 h.2 h.4.asked)
  given_at stage.Header allowed h = one h.0 h.1 (asked h.0 h.2 h.5.asked)
  given_at stage.TakeBody allowed h = one h.0 h.1 (asked h.0 h.2 h.5.asked)
  given_at stage.Body allowed h = one h.0 h.1 (asked h.0 h.2 h.5.asked)
  given_at stage.Finish allowed h = one h.0 h.1 (asked h.0 h.2 h.5.asked)
  given_at stage.Drain allowed h =
      one h.0 h.1 (replied h.0 h.2.reply (rw h.1 at allowed) h.2.replied)
  given_at stage.Next allowed h =
      one h.0 h.1 (replied h.0 h.2.reply (rw h.1 at allowed) h.2.replied)

  pub given_while : (terms : Terms) (done : List Entry) (at : Stage J) (end : Option End)
      → Sound rules runs terms session done last at end
      → IfNone end (IfSome last (λ e. IsSome e.filtered))
  given_while terms done at None s = given_at at s.allowed s.stage
  given_while terms done at (Some reason) s = tt
