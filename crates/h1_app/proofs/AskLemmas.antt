-- Steps in which the application is asked.
use Rattle.std.proofs.Common.{◌≡◌, ◌≤◌, ℕ, List, ◌++◌, length, Bool, true, false, Option, Some, None, option_map, option_to_list, Result, Ok, Err, refl, sym, ◌∙◌, ap, subst, arith}
use Rattle.std.proofs.lemmas.List.{take_all}
use Rattle.h1_app.specs.Words.{Poll, Ready, Pending, Error, LinkState, SessionView, Reply, Entry, no_memory, ReadsOnly, given_by, payload_of, Given, given_to, RequestView, Settings, payload_in, Payload, grown, Holding, History, Terms, AreBegun}
use Rattle.h1_app.specs.Heard.{Heard}
use Rattle.h1_app.specs.Heard as asked
use Rattle.h1_application.specs.Application.{GivesReply, HoldsPayload, ReadsInTime, IfPending, PendsBy}
use Rattle.std.specs.Bool.{then_some}
use Rattle.h1_transcript.specs.Entry.{gathering_of, holds_payload}
use Rattle.h1_transcript.specs.declared.history.History.TheVariants as histories
use Rattle.h1_transcript.proofs.ServedLemmas.{held_last}
use Rattle.h1_app.specs.Asking.{GathersLast, PendsAsked, RunsOn}
use Rattle.h1_app.proofs.Words.{AsksAs, GivesAsked, noted, lent, IsAskedOf}

-- the application waits for the body where a read was pending, and else for something of its own
asked_waits : (outcome : Poll (Result Reply Error)) (waits : Bool) (answer : Heard)
    → IsAskedOf outcome waits answer
    → (answer ≡ asked.Reads → waits ≡ true) × (answer ≡ asked.Pends → waits ≡ false)
asked_waits (Ready (Ok reply)) waits answer h = (λ e. cc, λ e. cc)
asked_waits (Ready (Err error)) waits answer h = (λ e. cc, λ e. cc)
asked_waits Pending true answer h = (λ e. refl, λ e. cc)
asked_waits Pending false answer h = (λ e. cc, λ e. refl)

-- the calls round the application's own
pub asked_as : {L C : Type 0} (state : L → LinkState) (old kept behind calm new : SessionView L C)
    (e start noted_e : Entry) (outcome : Poll (Result Reply Error)) (waits : Bool) (answer : Heard)
    → kept ≡ lent old (payload_in e) → ReadsOnly state kept behind → waits ≡ behind.body.waits
    → calm ≡ record behind { body = record behind.body { waits = false } }
    → new ≡ record calm { body = record calm.body { kept = None } }
    → noted_e ≡ noted start calm → start ≡ record e { body = start.body }
    → length noted_e.body ≤ start.holding.limit
    → IsAskedOf outcome waits answer → AsksAs state old new e noted_e answer
asked_as {L} {C} state old kept behind calm new e start noted_e outcome waits answer k r w ca n ne st within is = record {
  behind = behind;
  reads = subst (λ (x : SessionView L C). ReadsOnly state x behind) k r;
  session = n ∙ ap (λ (x : SessionView L C). record x { body = record x.body { kept = None } }) ca;
  entry = ne ∙ ap (noted start) ca ∙ ap (λ (x : Entry). noted x behind) st;
  within = subst (λ (x : Entry). length noted_e.body ≤ x.holding.limit) st within;
  reading = (λ a. sym w ∙ (asked_waits outcome waits answer is).0 a);
  pending = (λ a. sym w ∙ (asked_waits outcome waits answer is).1 a);
}

-- and what it notes of the time that its reads wait
pub asked_timed : {L C : Type 0} (state : L → LinkState) (now : ℕ)
    (old kept behind calm new : SessionView L C) (payload : Payload)
    → kept ≡ lent old payload → ReadsInTime state now kept behind
    → calm ≡ record behind { body = record behind.body { waits = false } }
    → new ≡ record calm { body = record calm.body { kept = None } } → ReadsInTime state now old new
asked_timed {L} {C} state now old kept behind calm new payload k timed ca n =
    let lent_so = subst (λ (x : SessionView L C). ReadsInTime state now x behind) k timed in
    rw (n, ca) (record { since = lent_so.since; limit = lent_so.limit })

-- what the application gives is what it is seen to give
pub gives_asked : (gives : Given → Reply → Type 0) (given : Given)
    (outcome : Poll (Result Reply Error)) (waits : Bool) (answer : Heard)
    → GivesReply gives given (λ error. error ≡ no_memory) outcome → IsAskedOf outcome waits answer
    → GivesAsked gives given answer
gives_asked gives given (Ready (Ok reply)) waits answer h is = subst (GivesAsked gives given) (sym is) h
gives_asked gives given (Ready (Err error)) waits answer h is = subst (GivesAsked gives given) (sym is) h
gives_asked gives given Pending true answer h is = subst (GivesAsked gives given) (sym is) tt
gives_asked gives given Pending false answer h is = subst (GivesAsked gives given) (sym is) tt

-- a job that goes on runs on
pub runs_asked : (runs : Type 0) (outcome : Poll (Result Reply Error)) (waits : Bool) (answer : Heard)
    → IsAskedOf outcome waits answer → IfPending outcome runs → RunsOn runs answer
runs_asked runs (Ready (Ok reply)) waits answer is h = rw is tt
runs_asked runs (Ready (Err error)) waits answer is h = rw is tt
runs_asked runs Pending true answer is h = rw is h
runs_asked runs Pending false answer is h = rw is h

-- and what it waits for is counted
pub counts_asked : (before now : ℕ) (outcome : Poll (Result Reply Error)) (waits : Bool) (answer : Heard)
    → IsAskedOf outcome waits answer → PendsBy outcome before now waits → PendsAsked before now answer
counts_asked before now (Ready (Ok reply)) waits answer is h = rw is h
counts_asked before now (Ready (Err error)) waits answer is h = rw is h
counts_asked before now Pending true answer is h = rw is h
counts_asked before now Pending false answer is h = rw is h

-- the exchange was handed all payload that the session has for it
pub given_noted : {L C : Type 0} (e : Entry) (session : SessionView L C) (head : RequestView)
    (began : Settings)
    → ◌≡◌ {A = Given} (given_by head began session)
    (record (given_to (noted e session) head) { began = began })
given_noted e session head began =
    ap (λ xs. record (given_by head began session) { handed = xs })
    (sym (take_all (length (payload_of session)) (payload_of session) (omega arith)))

-- the payload that is lent is held for an application that uses the whole of it
pub holds_lent : {L C : Type 0} (old kept : SessionView L C) (e : Entry) → kept ≡ lent old (payload_in e)
    → e.holding.gathers ≡ true → HoldsPayload kept
holds_lent {L} {C} old kept e is gathers = rw is (by e.holding.history e.holding.gathers gathers) where
  by : (history : History) (gathers : Bool) → gathers ≡ true
      → then_some (holds_payload history gathers) e.body ≡ Some e.body
  by histories.Kept gathers h = refl
  by histories.Forgotten gathers h = rw h refl

-- it is lent as it is held, and comes back so
pub comes_back : {L C : Type 0} (state : L → LinkState) (old kept behind : SessionView L C) (e : Entry)
    → kept ≡ lent old (payload_in e) → ReadsOnly state kept behind
    → (payload : Payload) × (behind.body.kept ≡ Some payload) × (payload.gathering ≡ gathering_of e.holding)
comes_back {L} {C} state old kept behind e is reads = (
  grown reads.payload (payload_in e),
  reads.kept ∙ ap (λ (x : SessionView L C). option_map (grown reads.payload) x.body.kept) is,
  refl,
)

-- what the last exchange was begun with says whether the application uses the whole of a body
pub gathers_last : (terms : Terms) (i : ℕ) (pipelining whole : Bool) (done : List Entry) (last : Option Entry)
    → AreBegun terms i pipelining (done ++ option_to_list last) → terms.holding.gathers ≡ whole
    → GathersLast whole last
gathers_last terms i pipelining whole done None begun is = λ gathers. tt
gathers_last terms i pipelining whole done (Some e) begun is = λ gathers.
    ap (λ (h : Holding). h.gathers) (held_last terms i pipelining done e begun) ∙ is ∙ gathers
