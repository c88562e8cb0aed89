-- What asking the application comes to.
use Rattle.std.specs.Prelude.{◌≡◌, ◌≤◌, ℕ, length, Bool, true, false, Option, Some, None, IfSome, Result, Ok, Err}
use Rattle.h1_app.specs.Words.{Poll, Ready, Pending, Error, no_memory, LinkState, raised, SessionView, Reply, Entry, Given, ReadsOnly, payload_of, how_of, payload_in, Stage, Outcome, given_to}
use Rattle.h1_head.specs.Views.{RequestView}
use Rattle.h1_server.specs.declared.settings.Settings.{Settings}
use Rattle.h1_application.specs.Application.{IsAskedFor, Runs}
use Rattle.h1_error.specs.declared.progress.End.TheVariants as end
use Rattle.h1_error.specs.declared.progress.Waiting.TheVariants as waiting
use Rattle.h1_app.specs.declared.exchange.Outcome.TheVariants as outcome
use Rattle.h1_app.specs.declared.exchange.Stage.TheVariants as stage
use Rattle.h1_app.specs.declared.steps.answering.Asked.{Asked}
use Rattle.h1_app.specs.declared.steps.answering.Asked.TheVariants as told
use Rattle.h1_app.specs.Heard.{Heard}
use Rattle.h1_app.specs.Heard as asked
use Rattle.h1_app.specs.Answering.{lent}

-- the exchange with what the session read for it
abbrev pub noted : {L C : Type 0} → Entry → SessionView L C → Entry
noted e session =
    record e {
      body = payload_of session;
      handed = length (payload_of session);
      body_error = session.body.refused;
      read_limit = session.read_limit;
      how = how_of session.body;
      left = session.settings;
    }

-- the application read with the session as it is lent, and the payload went back to the exchange
pub record AsksAs {L C : Type 0} (state : L → LinkState) (old new : SessionView L C)
    (e noted_e : Entry) (answer : Heard) : Type 0 where
  pub behind : SessionView L C
  pub reads : ReadsOnly state (lent old (payload_in e)) behind
  pub session : new ≡ record behind { body = record behind.body { kept = None; waits = false } }
  pub entry : noted_e ≡ noted e behind
  pub within : length noted_e.body ≤ e.holding.limit
  pub reading : answer ≡ asked.Reads → behind.body.waits ≡ true
  pub pending : answer ≡ asked.Pends → behind.body.waits ≡ false

-- a job that goes on runs on
abbrev pub RunsOn : Type 0 → Heard → Type 0
RunsOn runs asked.Reads = runs
RunsOn runs asked.Pends = runs
RunsOn runs (asked.Replied reply) = Unit {0}
RunsOn runs (asked.Failed error) = Unit {0}

abbrev pub GivesAsked : (Given → Reply → Type 0) → Given → Heard → Type 0
GivesAsked gives given asked.Reads = Unit {0}
GivesAsked gives given asked.Pends = Unit {0}
GivesAsked gives given (asked.Replied reply) = gives given reply
GivesAsked gives given (asked.Failed error) = error ≡ no_memory

-- the count of a job rises by one where it waits for something of its own
abbrev pub PendsAsked : ℕ → ℕ → Heard → Type 0
PendsAsked before now asked.Pends = now ≡ raised before 1
PendsAsked before now _ = now ≡ before

abbrev pub IsAskedOf : Poll (Result Reply Error) → Bool → Heard → Type 0
IsAskedOf (Ready (Ok reply)) waits answer = answer ≡ asked.Replied reply
IsAskedOf (Ready (Err error)) waits answer = answer ≡ asked.Failed error
IsAskedOf Pending true answer = answer ≡ asked.Reads
IsAskedOf Pending false answer = answer ≡ asked.Pends

-- what is told of an answer, whose reply is noted with the exchange
abbrev pub told_of : Heard → Asked
told_of (asked.Replied reply) = told.Replied
told_of asked.Reads = told.Reads
told_of asked.Pends = told.Pends
told_of (asked.Failed error) = told.Failed error

-- a reply joins the exchange
abbrev pub entry_after : Entry → Heard → Entry
entry_after e (asked.Replied reply) = record e { reply = Some reply }
entry_after e _ = e

-- where the exchange stands after each answer, and what the step comes to
abbrev pub stage_after : {J : Type 0} → J → Heard → Stage J
stage_after job (asked.Replied reply) = stage.TakeHeader
stage_after job _ = stage.Answer job

abbrev pub outcome_after : Heard → Outcome
outcome_after asked.Reads = outcome.Waits waiting.Read
outcome_after asked.Pends = outcome.Waits waiting.App
outcome_after (asked.Replied reply) = outcome.Done
outcome_after (asked.Failed error) = outcome.Ends (end.Failed error)

-- the answer is noted and told
pub record NotesAnswer (outcome : Poll (Result Reply Error)) (waits : Bool) (e noted_e : Entry)
    (answer : Asked) : Type 0 where
  pub heard : Heard
  pub is : IsAskedOf outcome waits heard
  pub entry : noted_e ≡ entry_after e heard
  pub told : answer ≡ told_of heard

-- the application was asked for the request that the session has, and its answer is noted and told
pub record HearsOf {L C J : Type 0} (state : L → LinkState) (runs : Runs J)
    (gives : Given → Reply → Type 0) (pends : J → ℕ) (job job2 : J) (old new : SessionView L C)
    (e e2 : Entry) (answer : Asked) : Type 0 where
  pub heard : Heard
  pub noted_e : Entry
  pub told : answer ≡ told_of heard
  pub entry : e2 ≡ entry_after noted_e heard
  pub asks : AsksAs state old new e noted_e heard
  pub on : (head : RequestView) (began : Settings) → IsAskedFor head old
      → runs job head began old.settings e.body old.read_limit
      → RunsOn (runs job2 head began new.settings noted_e.body new.read_limit) heard
  pub gave : (head : RequestView) (began : Settings) → IsAskedFor head old
      → runs job head began old.settings e.body old.read_limit
      → GivesAsked gives (record (given_to noted_e head) { began = began }) heard
  pub counted : PendsAsked (pends job) (pends job2) heard

-- payload is held for an application that uses the whole of it
abbrev pub GathersLast : Bool → Option Entry → Type 0
GathersLast whole last = whole ≡ true → IfSome last (λ e. e.holding.gathers ≡ true)
