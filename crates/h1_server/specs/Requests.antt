-- Reading a request's head (RFC 9112, sections 2.2 and 3).
use Rattle.std.specs.Prelude.{◌≡◌, ℕ, ◌+◌, ◌<◌, ◌≤◌, nat_lt, ◌⊎◌, Bool, List, [], length, take, drop, true, false, Option, Some, None, option_map, Result, Ok, Err}
use Rattle.h1_body.specs.Framing.{is_head}
use Rattle.h1_server.specs.Words.{Poll, Ready, Pending, Error, ErrorType, LinkState, HeadAt, RefusedAt, NotYetAt, IsReadAs, wish, body, reads, HeadStop, framing, Request, ReadRequest}
use Rattle.h1_error.specs.declared.error.ErrorType.TheVariants as kind
use Rattle.h1_link.specs.Counts.{Rose}
use Rattle.h1_transfer.specs.BodyAnswers.{error_of}
use Rattle.h1_transfer.specs.Moved.{Received}
use Rattle.h1_transfer.specs.Payload.{refused_for_good}
use Rattle.h1_transfer.specs.declared.reading_head.HeadStop.TheVariants as s
use Rattle.h1_server.specs.Keepalive.{keepalive_set, wished}
use Rattle.h1_server.specs.SessionView.{SessionView}
use Rattle.h1_server.specs.Times.{head_deadline}
use Rattle.h1_transfer.specs.Deadline.{FailsInTime, Noted, is_timeout, noted_since}
use Rattle.h1_transfer.specs.Budget.{allowance}
use Rattle.h1_server.specs.declared.request.ReadRequest.TheVariants as read
use Rattle.h1_server.specs.declared.request_place.RequestPlace.{RequestPlace}
use Rattle.h1_server.specs.declared.request.NoRequest.TheVariants.{Closed, IdleTimeout}

-- the head that was read, its bytes as they were parsed, and what follows from it: its wish, the
-- framing of its body, and whether the head of the reply alone is asked for
pub record IsRequestOf (bytes : List ℕ) (used : ℕ) (request : Request) : Type 0 where
  pub head : HeadAt bytes used request.header request.both
  pub raw : IsReadAs (take used bytes) request.raw
  pub framed : request.framing ≡ framing request.header
  pub wishes : request.wish ≡ wish request.header request.both
  pub head_only : request.head_only ≡ is_head request.header.method

-- the same of the request in a place
abbrev pub IsPlaceOf : List ℕ → ℕ → RequestPlace → Type 0
IsPlaceOf bytes used place = IsRequestOf bytes used place.request

-- a head was read: its bytes are used, and the body after it is still to be read
pub record BeginsRequest {L C : Type 0} (old new : SessionView L C) (bytes : List ℕ)
    (request : Request) (n : ℕ) : Type 0 where
  pub used : ℕ
  pub is : IsRequestOf bytes used request
  pub received : new.received ≡ drop used bytes
  pub raw : n ≡ length request.raw
  pub reader : (rest : List ℕ) → reads new.body.reader rest ≡ body request.framing rest
  pub body : new.body ≡ record old.body {
    reader = new.body.reader;
    refused = None;
    since = record old.body.since { read = None };
  }
  pub settings : new.settings ≡ keepalive_set old.settings (wished request.wish)
  pub refused : new.refused ≡ None

-- no head was read: the bytes are kept
pub record BeginsNone {L C : Type 0} (old new : SessionView L C) (bytes : List ℕ) : Type 0 where
  pub request : new.request ≡ None
  pub received : new.received ≡ bytes
  pub body : new.body
      ≡ record old.body { since = record old.body.since { read = new.body.since.read } }
  pub settings : new.settings ≡ old.settings

-- when each refusal comes, with the bytes that are received and not used then
abbrev pub HeadRefusal : LinkState → LinkState → List ℕ → ErrorType → Type 0
HeadRefusal before now bytes (kind.InvalidHTTPHeader fault) = RefusedAt bytes fault
HeadRefusal before now bytes kind.ConnectionClosed =
    (now.ended ≡ true) × NotYetAt bytes × (0 < length bytes)
HeadRefusal before now bytes kind.ReadError =
    Rose before.read_faults now.read_faults × NotYetAt bytes
HeadRefusal before now bytes kind.ReadTimedout =
    Rose before.read_waits now.read_waits × NotYetAt bytes × (0 < length bytes)
HeadRefusal before now bytes kind.NoMemory = Unit {0}
HeadRefusal before now bytes _ = ⊥

-- a refusal for good
abbrev pub Refuses : Option Error → ErrorType → Poll (Result ReadRequest Error) → Type 0
Refuses new kind result = (new ≡ Some (error_of kind)) × (result ≡ Ready (Err (error_of kind)))

-- the answer where the limit is reached: where no byte is received there is no request
abbrev pub LateFor : Bool → Option Error → Option Error → Poll (Result ReadRequest Error) → Type 0
LateFor true old new result = (new ≡ old) × (result ≡ Ready (Ok (read.None IdleTimeout)))
LateFor false old new result = Refuses new kind.ReadTimedout result

-- What a call answers that read no head, and what it keeps as the refusal of later calls.
abbrev pub StopsFor : Bool → Option Error → Option Error → HeadStop
    → Poll (Result ReadRequest Error) → Type 0
StopsFor none old new (s.Refused fault) result = Refuses new (kind.InvalidHTTPHeader fault) result
StopsFor none old new s.Closed result = (new ≡ old) × (result ≡ Ready (Ok (read.None Closed)))
StopsFor none old new s.Cut result = Refuses new kind.ConnectionClosed result
StopsFor none old new s.NotReady result = (new ≡ old) × (result ≡ Pending)
StopsFor none old new s.Late result = LateFor none old new result
StopsFor none old new s.Spent result = (new ≡ old) × (result ≡ Pending)
StopsFor none old new s.Failed result = Refuses new kind.ReadError result
StopsFor none old new s.NoMemory result = (new ≡ old) × (result ≡ Ready (Err (error_of kind.NoMemory)))

abbrev pub HeadAnswer : {L C : Type 0} → (L → LinkState) → SessionView L C → SessionView L C
    → List ℕ → ℕ → Poll (Result ReadRequest Error) → Type 0
HeadAnswer state old new bytes left (Ready (Ok (read.Head n))) =
    (request : Request) × (new.request ≡ Some request) × BeginsRequest old new bytes request n
    × ((state new.link).read_waits ≡ (state old.link).read_waits)
HeadAnswer state old new bytes left (Ready (Ok (read.None Closed))) =
    BeginsNone old new bytes × (new.refused ≡ None) × ((state new.link).ended ≡ true) × (bytes ≡ [])
HeadAnswer state old new bytes left (Ready (Ok (read.None IdleTimeout))) =
    BeginsNone old new bytes × (new.refused ≡ None)
    × Rose (state old.link).read_waits (state new.link).read_waits × (bytes ≡ [])
HeadAnswer state old new bytes left (Ready (Err error)) =
    BeginsNone old new bytes × (new.refused ≡ refused_for_good error)
    × HeadRefusal (state old.link) (state new.link) bytes error.kind × (error.retry ≡ false)
HeadAnswer state old new bytes left Pending =
    BeginsNone old new bytes × (new.refused ≡ None) × NotYetAt bytes
    × (Rose (state old.link).read_waits (state new.link).read_waits ⊎ (left ≡ 0))

-- the answer tells that the limit is reached
abbrev pub is_head_late : Result ReadRequest Error → Bool
is_head_late (Ok (read.Head n)) = false
is_head_late (Ok (read.None Closed)) = false
is_head_late (Ok (read.None IdleTimeout)) = true
is_head_late (Err error) = is_timeout error.kind

-- what is noted of the wait of a read that stopped
abbrev pub HeadTimed : Noted → ℕ → Poll (Result ReadRequest Error) → Type 0
HeadTimed noted left (Ready (Ok (read.Head n))) = noted.ended
HeadTimed noted left (Ready told) = FailsInTime noted (is_head_late told)
HeadTimed noted left Pending = noted.waited false ⊎ ((left ≡ 0) × noted.stopped)

-- one call at a moment that reads a head
pub record ReadsRequest {L C : Type 0} (state : L → LinkState) (now : ℕ) (old new : SessionView L C)
    (outcome : Poll (Result ReadRequest Error)) : Type 0 where
  -- the bytes that are received and not used, before the head is taken
  pub bytes : List ℕ
  pub left : ℕ
  -- what was received before is parsed before any read
  pub parsed : left < allowance old.budget → NotYetAt old.received
  pub received : Received (state old.link) (state new.link) old.received bytes
      (allowance old.budget) left
  pub budget : new.budget ≡ option_map (λ _. left) old.budget
  -- the reply, its flag, the mark of a link that is reusable, the context and what is noted of the
  -- body's reading stay
  pub rest : new
      ≡ record new {
        reply = old.reply;
        keep = old.keep;
        reusable = old.reusable;
        context = old.context;
        read_limit = old.read_limit;
      }
  -- a read was not ready at most once
  pub few : (state new.link).read_waits ≤ (state old.link).read_waits + 1
  pub answer : HeadAnswer state old new bytes left outcome
  pub timed : HeadTimed (noted_since (Rose (state old.link).read_waits (state new.link).read_waits)
      (record {
        deadline = head_deadline old.settings now;
        moved = nat_lt left (allowance old.budget);
        since = old.body.since.read;
      }) new.body.since.read) left outcome
