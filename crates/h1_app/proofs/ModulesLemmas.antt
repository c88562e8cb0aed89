-- A step in which no filter of the exchange runs leaves its modules as they stand.
use Rattle.std.proofs.Common.{◌≡◌, ◌<◌, ◌⊎◌, inl, inr, ℕ, List, Bool, Option, Some, None, IsSome}
use Rattle.h1_app.specs.Words.{Entry, Exchange, Given, LinkState, Outcome, Reply, RequestView, ResponseView, Terms, YEAR_10000}
use Rattle.h1_application.specs.Application.{Runs}
use Rattle.h1_app.specs.Filtering.{StandBehindHeader, StandBehindRequest, StandIn}
use Rattle.h1_app.proofs.Words.{Chain, FilterReady, FiltersStay, ModulesStand, SoundWith, SteppedBy, SteppedWith, filters_of, outcome_end}
use Rattle.h1_app.proofs.LeavesLemmas.{given_none}
use Rattle.h1_app.proofs.TurnLemmas.{if_none}

module _ {M : Type 0} (chain : Chain M) (modules : List M) (old new : Entry)
    (head : new.head ≡ old.head) where
  request_on : (filtered : Option RequestView) → StandBehindRequest chain old filtered modules
      → StandBehindRequest chain new filtered modules
  request_on None h = tt
  request_on (Some filtered) h = rw head h

  header_on : (reply : Option Reply) (header : ResponseView)
      → StandBehindHeader chain old reply header modules
      → StandBehindHeader chain new reply header modules
  header_on None header h = tt
  header_on (Some reply) header h = rw head h

  -- the head and what was made of it stay, and the reply does where its header was sent
  stand_on : (sent : Option ResponseView) → new.filtered ≡ old.filtered
      → (new.reply ≡ old.reply) ⊎ (sent ≡ None) → StandIn chain old sent modules
      → StandIn chain new sent modules
  stand_on None filtered reply h = rw filtered (request_on old.filtered h)
  stand_on (Some header) filtered (inl same) h = rw same (header_on old.reply header h)
  stand_on (Some header) filtered (inr none) h = let clash = none in cc

-- where the filters that ran for an exchange, and what they made, stay, its modules stand so again
pub modules_stand : {M : Type 0} (chain : Chain M) (old new : Option Entry) (modules : List M)
    → FiltersStay old new → ModulesStand chain old modules → ModulesStand chain new modules
modules_stand chain None new modules none h = rw none tt
modules_stand chain (Some old) None modules same h = absurd same
modules_stand chain (Some old) (Some new) modules same h =
    rw (same.sent_body, same.sent_head) (if_none old.sent_body (StandIn chain old old.sent_head modules)
    (StandIn chain new old.sent_head modules)
    (stand_on chain modules old new same.head old.sent_head same.filtered same.reply) h)

-- such a step leaves what one with these modules does
pub stepped_with : {L C J M : Type 0} (state : L → LinkState) (pends : J → ℕ)
    (gives : Given → Reply → Type 0)
    (runs : Runs J) (chain : Chain M) (now : ℕ)
    (shutdown : Bool) (modules : List M) (x y : Exchange L J C) (result : Outcome)
    → FilterReady gives runs chain now modules x → SteppedBy state pends gives runs now x y result
    → FiltersStay x.transcript.last y.transcript.last
    → SteppedWith state pends gives runs chain now shutdown modules x y result
stepped_with state pends gives runs chain now shutdown modules x y result ready stepped stay = record {
  stepped = stepped (filters_of chain) shutdown ready.allowed;
  stand = given_none (outcome_end result) (ModulesStand chain y.transcript.last modules)
      (modules_stand chain x.transcript.last y.transcript.last modules stay ready.stand);
}

-- a sound connection that goes on is ready for a step
pub ready_with : {L C J M : Type 0} (gives : Given → Reply → Type 0)
    (runs : Runs J) (chain : Chain M) (terms : Terms)
    (now : ℕ) (modules : List M) (x : Exchange L J C) → SoundWith gives runs chain terms x modules None
    → IsSome x.session.budget → now < YEAR_10000 → FilterReady gives runs chain now modules x
ready_with gives runs chain terms now modules x s budget moment = record {
  ready = record { sound = s.sound.stage; kept = s.sound.kept; budget = budget; moment = moment };
  allowed = s.sound.allowed;
  stand = s.stand;
}
