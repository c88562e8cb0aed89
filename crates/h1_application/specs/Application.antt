-- What an application may do with a session, and what it is given.
use Rattle.std.specs.Prelude.{◌≡◌, ℕ, ◌+◌, ◌-◌, ◌≤◌, ◌⊎◌, List, [], ◌++◌, Bool, true, false, Option, Some, None, option_map, IfSome, Result, Ok, Err}
use Rattle.h1_application.specs.Words.{Called, no_fault, read_fault_of_kind, Poll, Ready, Pending, Error, ErrorType, LinkState, Rose, raised, reads, Decoded, BodyRefusal, SessionView, Settings}
use Rattle.h1_error.specs.declared.error.ErrorType.TheVariants as kind
use Rattle.h1_transfer.specs.Calls.{Fault}
use Rattle.h1_head.specs.Views.{RequestView}
use Rattle.h1_body.specs.Body.{Body, whole, unfinished, broken}
use Rattle.h1_transfer.specs.Moved.{Moved}
use Rattle.h1_transfer.specs.Decoding.{Lacks, StaysWithin, held_of, noted_of}
use Rattle.h1_body.specs.Payload.{grown}
use Rattle.h1_transfer.specs.declared.body.BodyState.{BodyState}
use Rattle.h1_transcript.specs.declared.reply.Reply.{Reply}
use Rattle.h1_transcript.specs.declared.entry.How.{How}
use Rattle.h1_transcript.specs.declared.entry.How.TheVariants.{Open, Whole, Failed}
use Rattle.h1_transcript.specs.BodyLimits.{IsNotedAt, IsOverAt}
use Rattle.h1_transcript.specs.Given.{Given}

-- how the reading of the body stands: refused, at the end, or neither
abbrev pub how_stands : Body → Option Error → How
how_stands state (Some error) = Failed
how_stands (whole payload used) None = Whole
how_stands (unfinished payload) None = Open
how_stands (broken payload) None = Open

abbrev pub how_of : BodyState → How
how_of body = how_stands (reads body.reader []) body.refused

abbrev pub payload_of : {L C : Type 0} → SessionView L C → List ℕ
payload_of session = noted_of session.body.kept

-- memory holds all payload
abbrev pub HoldsPayload : {L C : Type 0} → SessionView L C → Type 0
HoldsPayload session = held_of session.body.kept ≡ Some (payload_of session)

abbrev pub given_by : {L C : Type 0} → RequestView → Settings → SessionView L C → Given
given_by head began session =
    record {
      head = head;
      handed = payload_of session;
      how = how_of session.body;
      body_error = session.body.refused;
      read_limit = session.read_limit;
      began = began;
      left = session.settings;
    }

-- the fault of the link that reading met, of a body that wasn't refused before
abbrev pub fault_met : Option Error → Option Error → Fault
fault_met (Some error) now = no_fault
fault_met None None = no_fault
fault_met None (Some error) = read_fault_of_kind error.kind

-- Why a read of the body failed. Memory ran out where nothing is left to be used, or for a run of
-- payload within the limit; each other refusal has the cause that the session tells.
abbrev pub FailsRead : {L C : Type 0} → (L → LinkState) → SessionView L C → SessionView L C
    → ErrorType → Type 0
FailsRead state old new kind.NoMemory = Lacks new.body.reader new.received
    ⊎ StaysWithin new.body.kept new.body.reader new.received
FailsRead state old new k = BodyRefusal state old new k

-- an error of the body has its cause, and isn't for a retry
abbrev pub RefusesWith : {L C : Type 0} → (L → LinkState) → SessionView L C → SessionView L C
    → Error → Type 0
RefusesWith state old new error = FailsRead state old new error.kind × (error.retry ≡ false)

-- a refusal that was answered before stays, with all that was read; a new one has its cause
abbrev pub RefusedBy : {L C : Type 0} → (L → LinkState) → SessionView L C → SessionView L C
    → Option Error → Type 0
RefusedBy state old new (Some error) =
    (new.body.refused ≡ Some error) × (new.body.reader ≡ old.body.reader)
    × (new.received ≡ old.received)
    × ((state new.link).ended ≡ (state old.link).ended)
RefusedBy state old new None =
    IfSome new.body.refused (λ error. RefusesWith state old new error)

-- where a read was pending or waited too long, nothing is left to be used, and the link or the budget
-- is why
abbrev pub WaitsBy : {L C : Type 0} → (L → LinkState) → SessionView L C → SessionView L C → Bool
    → Type 0
WaitsBy state old new false = (state new.link).read_waits ≡ (state old.link).read_waits
WaitsBy state old new true = Lacks new.body.reader new.received
    × (Rose (state old.link).read_waits (state new.link).read_waits ⊎ (new.budget ≡ Some 0))

-- The application only reads the body and sets what may be set: the bytes that it used become the
-- payload that it was handed.
pub record ReadsOnly {L C : Type 0} (state : L → LinkState)
    (old new : SessionView L C) : Type 0 where
  pub piece : List ℕ
  pub used : List ℕ
  pub payload : List ℕ
  pub spent : ℕ
  pub moved : Moved (state old.link) (state new.link) piece [] spent
  pub budget : new.budget ≡ option_map (λ left. left - spent) old.budget
  pub within : IfSome old.budget (λ left. spent ≤ left)
  pub flushed : (state new.link).flushed ≡ (state old.link).flushed
  -- a read was not ready at most once
  pub few : (state new.link).read_waits ≤ (state old.link).read_waits + 1
  -- a call of the link moved nothing at most once, the link isn't shut, and only a read may fail
  pub calls : Called (state old.link) (state new.link) false
      (fault_met old.body.refused new.body.refused)
  pub bytes : old.received ++ piece ≡ used ++ new.received
  pub decoded : Decoded old.body.reader new.body.reader used payload
  pub kept : new.body.kept ≡ option_map (grown payload) old.body.kept
  pub request : new.request ≡ old.request
  pub head_refused : new.refused ≡ old.refused
  pub reuses : new.settings.reuses ≡ old.settings.reuses
  pub reply : new.reply ≡ old.reply
  -- the flag of a header that was taken up, and the mark of a link that is reusable
  pub keep : new.keep ≡ old.keep
  pub reusable : new.reusable ≡ old.reusable
  -- what the caller keeps with the connection stays
  pub context : new.context ≡ old.context
  pub refused : RefusedBy state old new old.body.refused
  -- the time for all of what is left of a body doesn't begin
  pub undrained : old.body.since.drain ≡ None → new.body.since.drain ≡ None
  -- told by the session's note of a pending read, where it was cleared before
  pub waits : old.body.waits ≡ false → WaitsBy state old new new.body.waits

abbrev pub IfPending : {T : Type 0} → Poll T → Type 0 → Type 0
IfPending (Ready value) P = Unit {0}
IfPending Pending P = P

-- the reply is one that the relation gives; only out of memory stands beside it
abbrev pub GivesReply : {E : Type 0} → (Given → Reply → Type 0) → Given → (E → Type 0)
    → Poll (Result Reply E) → Type 0
GivesReply gives given only Pending = Unit {0}
GivesReply gives given only (Ready (Ok reply)) = gives given reply
GivesReply gives given only (Ready (Err error)) = only error

-- A job's count rises by one with an answer that it isn't ready by itself, and with no other: a
-- pending answer is that of a read that was pending or waited too long, or the job's own.
abbrev pub PendsBy : {T : Type 0} → Poll T → ℕ → ℕ → Bool → Type 0
PendsBy (Ready value) before now waits = now ≡ before
PendsBy Pending before now true = now ≡ before
PendsBy Pending before now false = now ≡ raised before 1

-- How a job stands for the request with this head: with what was set as it started, what is set now,
-- the payload that it was handed, and the limit that a read reached which timed out.
abbrev pub Runs : Type 0 → Type 1
Runs J = J → RequestView → Settings → Settings → List ℕ → Option ℕ → Type 0

-- the session's request has this head
abbrev pub IsAskedFor : {L C : Type 0} → RequestView → SessionView L C → Type 0
IsAskedFor head session = IfSome session.request (λ request. request.header ≡ head)

-- The limit that a read reached which timed out is noted with the refusal, and stays: the read
-- timeout that was in force at that read. Nothing else is noted.
abbrev pub LimitedFor : ℕ → Option ℕ → Option ℕ → Option ℕ → ErrorType → Type 0
LimitedFor now since before behind kind.ReadTimedout = IsOverAt now since behind
LimitedFor now since before behind _ = behind ≡ before

abbrev pub LimitedBy : ℕ → Option ℕ → Option ℕ → Option ℕ → Option Error → Option Error → Type 0
LimitedBy now since before behind (Some error) refused = behind ≡ before
LimitedBy now since before behind None None = behind ≡ before
LimitedBy now since before behind None (Some error) = LimitedFor now since before behind error.kind

-- What the application notes of the time that its reads wait, in a call at this moment.
pub record ReadsInTime {L C : Type 0} (state : L → LinkState) (now : ℕ)
    (old new : SessionView L C) : Type 0 where
  -- a read of the body waits since the call, or it waited before and no byte moved
  pub since : IsNotedAt now (state old.link).moves (state new.link).moves old.body.since.read
      new.body.since.read
  -- a body that is refused for its time has reached the limit that is noted
  pub limit : LimitedBy now new.body.since.read old.read_limit new.read_limit old.body.refused
      new.body.refused

-- no read was pending or refused, and each link call moved bytes
pub record ReadsAtOnce {L C : Type 0} (state : L → LinkState)
    (old new : SessionView L C) : Type 0 where
  pub refused : new.body.refused ≡ old.body.refused
  pub waits : new.body.waits ≡ old.body.waits
  pub link_waits : (state new.link).read_waits ≡ (state old.link).read_waits
  pub calls : Called (state old.link) (state new.link) true no_fault
