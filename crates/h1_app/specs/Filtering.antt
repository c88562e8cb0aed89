-- What the modules of a connection make of an exchange: each filter goes on from what the one before
-- it left.
use Rattle.std.specs.Prelude.{◌≡◌, ◌⊎◌, ℕ, List, [], ◌∷◌, map, Bool, true, false, Option, Some, None, IfNone, unwrap_or, Result, Ok, Err}
use Rattle.h1_modules.specs.Filters.{on_ok, run}
use Rattle.h1_modules.specs.Outcome.{Outcome, Piece}
use Rattle.h1_modules.specs.declared.http_module.HttpModule
use Rattle.h1_modules.specs.declared.http_module.HttpModuleBuilder
use Rattle.h1_app.specs.Words.{RequestView, ResponseView, Given, Reply, Entry, Filters, Rules}
use Rattle.h1_app.specs.View.{Served}

-- the modules that each exchange begins with, and what the filters of all of them make of a value
pub record Chain (M : Type 0) : Type 0 where
  pub begins : List M
  pub request : List M → RequestView → Outcome (List M) RequestView ℕ
  pub header : Bool → List M → ResponseView → Outcome (List M) ResponseView ℕ
  pub body : Bool → List M → Piece → Outcome (List M) Piece ℕ

-- the chain of these builders, whose modules have these filters
abbrev pub chain : {B M : Type 0} → (B → M) → (M → RequestView → Outcome M RequestView ℕ)
    → (Bool → M → ResponseView → Outcome M ResponseView ℕ)
    → (Bool → M → Piece → Outcome M Piece ℕ) → List B → Chain M
chain begins request header body builders = record {
  begins = map begins builders;
  request = λ modules head. run request modules head;
  header = λ end modules head. run (header end) modules head;
  body = λ end modules piece. run (body end) modules piece;
}

abbrev pub is_empty : List ℕ → Bool
is_empty [] = true
is_empty (b ∷ bytes) = false

-- the modules and the head after the filters of a request
abbrev pub behind_request : {M : Type 0} → Chain M → RequestView → Outcome (List M) RequestView ℕ
behind_request chain head = chain.request chain.begins head

-- the modules and the header after those of a reply's header; the flag says that no body follows
abbrev pub behind_header : {M : Type 0} → Chain M → RequestView → Reply
    → Outcome (List M) ResponseView ℕ
behind_header chain head reply = on_ok (behind_request chain head)
    (λ asked. chain.header (is_empty reply.body) asked.0 reply.header)

-- and after those of its body, of which this is the last piece
abbrev pub behind_body : {M : Type 0} → Chain M → RequestView → Reply → Outcome (List M) Piece ℕ
behind_body chain head reply = on_ok (behind_header chain head reply)
    (λ headed. chain.body true headed.0 (Some reply.body))

-- what a filter made, without the modules
abbrev pub value_of : {M A : Type 0} → Outcome (List M) A ℕ → Result A ℕ
value_of (Ok after) = Ok after.1
value_of (Err n) = Err n

-- a piece that was taken away is empty
abbrev pub bytes_of : {M : Type 0} → Outcome (List M) Piece ℕ → Result (List ℕ) ℕ
bytes_of (Ok after) = Ok (unwrap_or after.1 [])
bytes_of (Err n) = Err n

-- what the modules of an exchange make of what it has
abbrev pub filters_of : {M : Type 0} → Chain M → Filters
filters_of chain = record {
  request = λ head. value_of (behind_request chain head);
  header = λ head reply. value_of (behind_header chain head reply);
  body = λ head reply. bytes_of (behind_body chain head reply);
}

-- what is sent where an application gives these replies and the modules filter them
abbrev pub rules_with : {M : Type 0} → (Given → Reply → Type 0) → Chain M → Rules
rules_with gives chain = record { gives = gives; filters = filters_of chain }

-- the chain of these builders, by what their type and that of their modules say of each
abbrev pub chain_of : {B M : Type 0} → HttpModuleBuilder.Ghosts B M → HttpModule.Ghosts M → List B
    → Chain M
chain_of of_builder of_module builders = chain of_builder.begins of_module.request_header
    of_module.response_header of_module.response_body builders

-- what a server sends whose application gives these replies, and whose modules are of this type
abbrev pub rules_of : {A B M : Type 0} → (A → Given → Reply → Type 0)
    → HttpModuleBuilder.Ghosts B M → HttpModule.Ghosts M → Served A B → Rules
rules_of gives of_builder of_module server =
    rules_with (gives server.app) (chain_of of_builder of_module server.builders)

-- the modules behind the header that was sent
abbrev pub StandBehindHeader : {M : Type 0} → Chain M → Entry → Option Reply → ResponseView → List M
    → Type 0
StandBehindHeader chain e None header modules = Unit {0}
StandBehindHeader chain e (Some reply) header modules =
    behind_header chain e.head reply ≡ Ok (modules, header)

-- the modules behind the head that the application is given, until a header is sent
abbrev pub StandBehindRequest : {M : Type 0} → Chain M → Entry → Option RequestView → List M → Type 0
StandBehindRequest chain e None modules = Unit {0}
StandBehindRequest chain e (Some filtered) modules =
    behind_request chain e.head ≡ Ok (modules, filtered)

abbrev pub StandIn : {M : Type 0} → Chain M → Entry → Option ResponseView → List M → Type 0
StandIn chain e None modules = StandBehindRequest chain e e.filtered modules
StandIn chain e (Some header) modules = StandBehindHeader chain e e.reply header modules

-- the modules of the exchange that is last are as the filters left them that ran for it
abbrev pub ModulesStand : {M : Type 0} → Chain M → Option Entry → List M → Type 0
ModulesStand chain None modules = Unit {0}
ModulesStand chain (Some e) modules = IfNone e.sent_body (StandIn chain e e.sent_head modules)

-- the filters that ran for an exchange, and what they made
pub record SameFiltered (old new : Entry) : Type 0 where
  pub head : new.head ≡ old.head
  pub filtered : new.filtered ≡ old.filtered
  pub sent_head : new.sent_head ≡ old.sent_head
  pub sent_body : new.sent_body ≡ old.sent_body
  -- a reply that was there stays where its header was sent
  pub reply : (new.reply ≡ old.reply) ⊎ (old.sent_head ≡ None)

-- a step in which no filter of the exchange runs
abbrev pub FiltersStay : Option Entry → Option Entry → Type 0
FiltersStay None new = new ≡ None
FiltersStay (Some old) None = ⊥
FiltersStay (Some old) (Some new) = SameFiltered old new
