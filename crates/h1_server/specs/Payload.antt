-- Reading a request's body, as the session sees it (RFC 9112, sections 6 and 8).
use Rattle.std.specs.Prelude.{ℕ, ◌==◌, List, Bool, false, Option, Result, Ok, Err}
use Rattle.h1_server.specs.Words.{Poll, Ready, Pending, Error, ErrorType, LinkState, Framing}
use Rattle.h1_error.specs.declared.error.ErrorType.TheVariants as kind
use Rattle.h1_body.specs.declared.framing.Framing.TheVariants.{Counted, Chunked, UntilClose}
use Rattle.h1_transfer.specs.Payload as payloads
use Rattle.h1_server.specs.SessionView.{SessionView, noting, session}
use Rattle.h1_server.specs.Times.{body_deadline, drain_limits}

-- a request without a body
abbrev pub is_empty_framing : Framing → Bool
is_empty_framing (Counted n) = n == 0
is_empty_framing Chunked = false
is_empty_framing UntilClose = false

-- when each refusal of the body comes
abbrev pub BodyRefusal : {L C : Type 0} → (L → LinkState) → SessionView L C → SessionView L C
    → ErrorType → Type 0
BodyRefusal state old new kind =
    payloads.BodyRefusal state (session.transfer old) (session.transfer new) kind

-- the answer of a call that reads a part of the body
abbrev pub PayloadAnswer : {L C : Type 0} → (L → LinkState) → SessionView L C → SessionView L C
    → List ℕ → ℕ → Poll (Result (Option (List ℕ)) Error) → Type 0
PayloadAnswer state old new payload left outcome =
    payloads.PayloadAnswer state (session.transfer old) (session.transfer new) payload left outcome

-- the limit that is noted behind a read with this answer that had this limit
abbrev pub limit_behind : {T : Type 0} → Option ℕ → Option ℕ → Poll (Result T Error) → Option ℕ
limit_behind limit noted (Ready (Ok value)) = noted
limit_behind limit noted (Ready (Err error)) = by error.kind where
  by : ErrorType → Option ℕ
  by kind.ReadTimedout = limit
  by _ = noted
limit_behind limit noted Pending = noted

-- one call at a moment that reads a part of the body
abbrev pub ReadsPayload : {L C : Type 0} → (L → LinkState) → ℕ → SessionView L C → SessionView L C
    → Poll (Result (Option (List ℕ)) Error) → Type 0
ReadsPayload state now old new outcome =
    payloads.ReadsPayload state (noting new.read_limit) (body_deadline old.settings.times now) old new
    outcome

-- the answer of a call that reads the rest of the body
abbrev pub DrainAnswer : {L C : Type 0} → (L → LinkState) → SessionView L C → SessionView L C → ℕ
    → Poll (Result (Unit {0}) Error) → Type 0
DrainAnswer state old new left outcome =
    payloads.DrainAnswer state (session.transfer old) (session.transfer new) left outcome

-- one call at a moment that reads the rest of the body
abbrev pub DrainsBody : {L C : Type 0} → (L → LinkState) → ℕ → SessionView L C → SessionView L C
    → Poll (Result (Unit {0}) Error) → Type 0
DrainsBody state now old new outcome =
    payloads.DrainsBody state session (drain_limits old.settings.times now) old new outcome
