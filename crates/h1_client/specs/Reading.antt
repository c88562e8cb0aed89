-- Reading the heads of the responses to a request (RFC 9112, sections 4 and 8).
use Rattle.std.specs.Prelude.{◌≡◌, ℕ, Bool, true, false, List, drop, Option, Some, None, IsSome, Result, Ok, Err}
use Rattle.h1_error.specs.declared.error.ErrorType.TheVariants as kind
use Rattle.h1_error.specs.declared.head_fault.HeadFault.TheVariants as fault
use Rattle.h1_transfer.specs.BodyAnswers.{error_of}
use Rattle.h1_transfer.specs.Heads.{ReadsHead}
use Rattle.h1_transfer.specs.declared.reading_head.HeadRead.TheVariants as read
use Rattle.h1_transfer.specs.declared.reading_head.HeadStop.TheVariants as stop
use Rattle.h1_client.specs.Words.{Poll, Pending, Ready, Error, ErrorType, RequestView, ResponseView, ResponseHead, LinkState, TransferView, HeadRead, HeadStop, HasLooked, MAX_HEADER_SIZE, IsWholeAt, RefusedAt, NotYetAt, body, reads}
use Rattle.h1_client.specs.ClientView.{ClientView, call_begun, request_of}
use Rattle.h1_client.specs.Responses.{framing_to, has_bad_length}
use Rattle.h1_client.specs.Settings.{read_deadline}
use Rattle.h1_client.specs.declared.answered.Answered.{Answered}

-- the head in a place is that which the bytes begin with, which takes so many of them
abbrev pub IsPlaceOf : List ℕ → ℕ → Option ResponseHead → Type 0
IsPlaceOf bytes used None = ⊥
IsPlaceOf bytes used (Some head) = IsWholeAt bytes used head

-- the error of a read that stopped, which is for a retry where the peer may have got nothing
abbrev pub stop_error : ErrorType → Bool → Error
stop_error kind retry = record { kind = kind; retry = retry }

-- a head that is whole is in its place
abbrev pub IsInPlace : List ℕ → Option ResponseHead → HeadRead → Type 0
IsInPlace bytes found (read.Whole used) = IsPlaceOf bytes used found
IsInPlace bytes found (read.Stopped stop) = Unit {0}

-- a refusal for good
abbrev pub Refuses : Option Error → Error → Poll (Result ℕ Error) → Type 0
Refuses new error outcome = (new ≡ Some error) × (outcome ≡ Ready (Err error))

-- What a call answers that read no head, and what it keeps as the refusal of later ones. The request
-- may be sent again only where the link ended or failed.
abbrev pub StopsFor : Option Error → Option Error → HeadStop → Poll (Result ℕ Error) → Type 0
StopsFor old new (stop.Refused fault) outcome =
    Refuses new (stop_error (kind.InvalidHTTPHeader fault) false) outcome
StopsFor old new stop.Closed outcome =
    Refuses new (stop_error kind.ConnectionClosed true) outcome
StopsFor old new stop.Cut outcome = Refuses new (stop_error kind.ConnectionClosed true) outcome
StopsFor old new stop.NotReady outcome = (new ≡ old) × (outcome ≡ Pending)
StopsFor old new stop.Late outcome = Refuses new (stop_error kind.ReadTimedout false) outcome
StopsFor old new stop.Spent outcome = (new ≡ old) × (outcome ≡ Pending)
StopsFor old new stop.Failed outcome = Refuses new (stop_error kind.ReadError true) outcome
StopsFor old new stop.NoMemory outcome =
    (new ≡ old) × (outcome ≡ Ready (Err (error_of kind.NoMemory)))

-- a head is used, and its body begins; the head before is forgotten
pub record UsesHead {L : Type 0} (old new : TransferView L) (was now : Answered)
    (request : RequestView) (head : ResponseHead) (used : ℕ) : Type 0 where
  pub begins : (rest : List ℕ) → reads new.body.reader rest
      ≡ body (framing_to request head.header) rest
  pub transfer : new ≡ record old {
    received = drop used old.received;
    body = record old.body { reader = new.body.reader; refused = None };
  }
  pub looks : HasLooked MAX_HEADER_SIZE now.search new.received
  pub answered : now ≡ record was { search = now.search; last = Some head }

-- no head is used
pub record LeavesHead {L : Type 0} (old new : TransferView L) (was now : Answered) : Type 0 where
  pub transfer : new ≡ old
  pub looks : HasLooked MAX_HEADER_SIZE now.search new.received
  pub answered : now ≡ record was { search = now.search; refused = now.refused }

-- a head whose length is stated wrongly is refused, and any other is used
abbrev pub JudgesHead : {L : Type 0} → TransferView L → TransferView L → Answered → Answered
    → RequestView → ResponseHead → ℕ → Bool → Poll (Result ℕ Error) → Type 0
JudgesHead old new was now request head used true outcome =
    Refuses now.refused (stop_error (kind.InvalidHTTPHeader fault.BadContentLength) false) outcome
    × LeavesHead old new was now
JudgesHead old new was now request head used false outcome =
    (outcome ≡ Ready (Ok used)) × UsesHead old new was now request head used

-- what reading a head came to is what the call answers
abbrev pub TakesHead : {L : Type 0} → Bool → TransferView L → TransferView L → Answered → Answered
    → Option RequestView → Option ResponseHead → HeadRead → Poll (Result ℕ Error) → Type 0
TakesHead tolerant old new was now (Some request) (Some head) (read.Whole used) outcome =
    JudgesHead old new was now request head used (has_bad_length tolerant head.header.fields)
    outcome
TakesHead tolerant old new was now request found (read.Stopped stop) outcome =
    StopsFor was.refused now.refused stop outcome × LeavesHead old new was now
TakesHead tolerant old new was now request found (read.Whole used) outcome = ⊥

-- One call that reads one head. Bytes behind it begin the next one, or its body.
pub record ReadsResponse {L : Type 0} (state : L → LinkState) (now : ℕ) (old new : ClientView L)
    (outcome : Poll (Result ℕ Error)) : Type 0 where
  pub found : Option ResponseHead
  pub read : HeadRead
  -- the transfer with the bytes that are received, before a head is used
  pub between : TransferView L
  pub reads : ReadsHead state IsPlaceOf RefusedAt NotYetAt (read_deadline old.settings now)
      (call_begun old).transfer between found read
  pub takes : TakesHead old.settings.tolerant between new.transfer old.answered new.answered
      (request_of old) found read outcome
  pub rest : new ≡ record old {
    transfer = new.transfer;
    answered = new.answered;
    spent = new.spent;
  }

-- a head that was read is there
abbrev pub IsThere : Poll (Result ℕ Error) → Option ResponseHead → Type 0
IsThere (Ready (Ok used)) last = IsSome last
IsThere (Ready (Err error)) last = Unit {0}
IsThere Pending last = Unit {0}

-- a copy of this head, or want of memory
abbrev pub IsCopied : ResponseHead → Poll (Result ResponseView Error) → Type 0
IsCopied last (Ready (Ok head)) = head ≡ last.header
IsCopied last (Ready (Err error)) = error ≡ error_of kind.NoMemory
IsCopied last Pending = ⊥

-- the answer of a read of a head, with a copy of the head in place of its length
abbrev pub CopyAnswer : Poll (Result ℕ Error) → Option ResponseHead
    → Poll (Result ResponseView Error) → Type 0
CopyAnswer (Ready (Ok used)) (Some last) outcome = IsCopied last outcome
CopyAnswer (Ready (Ok used)) None outcome = ⊥
CopyAnswer (Ready (Err error)) last outcome = outcome ≡ Ready (Err error)
CopyAnswer Pending last outcome = outcome ≡ Pending
