-- Writing the head of a request (RFC 9112, section 3).
use Rattle.std.specs.Prelude.{◌≡◌, ℕ, nat_lt, ◌⊎◌, ◌&&◌, Bool, true, false, List, [], ◌++◌, length, Option, Some, None, Result, Ok, Err}
use Rattle.h1_error.specs.declared.error.ErrorType.TheVariants as kind
use Rattle.h1_error.specs.declared.head_fault.HeadFault.TheVariants as fault
use Rattle.h1_transfer.specs.BodyAnswers.{error_of}
use Rattle.h1_transfer.specs.Deadline.{Wait, wait_with, went_so, since_behind, is_waiting, is_over}
use Rattle.h1_transfer.specs.Writes.{Delivers}
use Rattle.h1_transfer.specs.declared.delivering.Delivery.TheVariants.{Flushed}
use Rattle.h1_client.specs.Words.{Poll, Pending, Ready, Error, RequestView, LinkState, Deadline, TransferView, Outgoing, Step, Free, Head, request_bytes, framing, begun}
use Rattle.h1_client.specs.ClientView.{ClientView, call_begun}
use Rattle.h1_client.specs.Settings.{write_deadline}
use Rattle.h1_client.specs.Written.{FitsRequest}
use Rattle.h1_client.specs.declared.asked.Asked.{Asked}

-- a head is handed in before a request is begun, and only its own call goes on
abbrev pub IsAskStep : Option RequestView → Option RequestView → Step → Type 0
IsAskStep (Some head) request step = (request ≡ None) × (step ≡ Free)
IsAskStep None request step = step ≡ Head

-- the error of a head that can't stand on a request line
abbrev pub bad_line : Error
bad_line = error_of (kind.InvalidHTTPHeader fault.BadRequestLine)

-- these bytes are owed, and the body behind them is begun
abbrev pub owing : Outgoing → List ℕ → RequestView → Outgoing
owing out bytes head =
    record out { owed = bytes; writer = begun (framing head); headed = true; step = Head }

-- a head with these bytes is taken up
abbrev pub taken_up : {L : Type 0} → ClientView L → RequestView → List ℕ → ClientView L
taken_up s head bytes = record s {
  transfer = record s.transfer { outgoing = owing s.transfer.outgoing bytes head };
  asked = record s.asked { request = Some head; length = length bytes };
}

-- the answer of a call that wrote: how many bytes the head has, once all are flushed
abbrev pub ask_answer : Bool → ℕ → Poll (Result (Unit {0}) Error) → Poll (Result ℕ Error)
ask_answer true count told = Ready (Err (error_of kind.WriteTimedout))
ask_answer false count (Ready (Ok done)) = Ready (Ok count)
ask_answer false count (Ready (Err error)) = Ready (Err error)
ask_answer false count Pending = Pending

-- what a later call answers again
abbrev pub late_behind : Bool → Option Error → Option Error
late_behind true was = Some (error_of kind.WriteTimedout)
late_behind false was = was

-- since when a call with this answer waits, which stopped with so many calls left
abbrev pub ask_wait : Asked → ℕ → Deadline → Wait
ask_wait was left deadline = wait_with deadline (nat_lt left 64) was.since

-- it waits, and its limit is reached
abbrev pub is_late : Asked → Poll (Result (Unit {0}) Error) → ℕ → Deadline → Bool
is_late was told left deadline =
    is_waiting (went_so told left) && is_over (ask_wait was left deadline)

-- a call of this answer, which stopped with so many calls left, is judged
pub record JudgesAsk (was now : Asked) (told : Poll (Result (Unit {0}) Error)) (left : ℕ)
    (deadline : Deadline) (outcome : Poll (Result ℕ Error)) : Type 0 where
  pub answer : outcome ≡ ask_answer (is_late was told left deadline) was.length told
  pub asked : now ≡ record was {
    since = since_behind (went_so told left) (ask_wait was left deadline);
    late = late_behind (is_late was told left deadline) was.late;
  }

-- What is owed of the head goes out. A call that waits is refused where the limit is reached, and so
-- is each later one.
pub record SendsHead {L : Type 0} (state : L → LinkState) (now : ℕ) (old new : ClientView L)
    (outcome : Poll (Result ℕ Error)) : Type 0 where
  pub told : Poll (Result (Unit {0}) Error)
  pub left : ℕ
  pub delivers : Delivers state Flushed old.transfer new.transfer told
  pub budget : new.transfer.budget ≡ Some left
  pub judges : JudgesAsk old.asked new.asked told left (write_deadline old.settings now) outcome
  pub rest : new ≡ record old {
    transfer = new.transfer;
    asked = new.asked;
    spent = new.spent;
  }

-- nothing is taken up, and the head stays with its caller
abbrev pub StaysAsIs : {L : Type 0} → ClientView L → ClientView L → Option RequestView
    → Option RequestView → Type 0
StaysAsIs old new head kept = (new ≡ record (call_begun old) { spent = false }) × (kept ≡ head)

-- what becomes of a head with these bytes, or with none
abbrev pub AsksWith : {L : Type 0} → (L → LinkState) → ℕ → ClientView L → ClientView L → RequestView
    → Option RequestView → Option (List ℕ) → Poll (Result ℕ Error) → Type 0
AsksWith state now old new head kept None outcome =
    (outcome ≡ Ready (Err bad_line)) × StaysAsIs old new (Some head) kept
AsksWith state now old new head kept (Some bytes) outcome =
    (kept ≡ None) × SendsHead state now (taken_up (call_begun old) head bytes) new outcome

-- memory ran out before the head was taken up
abbrev pub Starves : {L : Type 0} → ClientView L → ClientView L → Option RequestView
    → Option RequestView → Poll (Result ℕ Error) → Type 0
Starves old new head kept outcome =
    (outcome ≡ Ready (Err (error_of kind.NoMemory))) × StaysAsIs old new head kept

-- One call that writes the head of a request, which is taken up before it is sent.
abbrev pub AsksBy : {L : Type 0} → (L → LinkState) → ℕ → ClientView L → ClientView L
    → Option RequestView → Option RequestView → Poll (Result ℕ Error) → Type 0
AsksBy state now old new None kept outcome =
    (kept ≡ None) × SendsHead state now (call_begun old) new outcome
AsksBy state now old new (Some head) kept outcome =
    Starves old new (Some head) kept outcome
    ⊎ AsksWith state now old new head kept (request_bytes head) outcome

-- why a head isn't taken up
abbrev pub AskFault : RequestView → Error → Type 0
AskFault head error =
    (error ≡ error_of kind.NoMemory) ⊎ ((request_bytes head ≡ None) × (error ≡ bad_line))

-- the bytes of a head are put, or it is told why not
abbrev pub PutsHead : RequestView → List ℕ → List ℕ → Result (Unit {0}) Error → Type 0
PutsHead head old new (Ok done) =
    (bytes : List ℕ) × (request_bytes head ≡ Some bytes) × (new ≡ old ++ bytes)
PutsHead head old new (Err error) = AskFault head error

-- a head with these bytes is taken up
pub record TakesUpHead {L : Type 0} (old new : TransferView L) (was now : Asked)
    (head : RequestView) : Type 0 where
  pub bytes : List ℕ
  pub are : request_bytes head ≡ Some bytes
  pub fits : FitsRequest (framing head)
  pub settled : old.outgoing.owed ≡ []
  pub transfer : new ≡ record old { outgoing = owing old.outgoing bytes head }
  pub asked : now ≡ record was { request = Some head; length = length bytes }

-- what is handed in is taken up, or all stays
abbrev pub TakesUp : {L : Type 0} → TransferView L → TransferView L → Asked → Asked
    → Option RequestView → Option RequestView → Result (Unit {0}) Error → Type 0
TakesUp old new was now None kept (Ok done) = (new ≡ old) × (now ≡ was) × (kept ≡ None)
TakesUp old new was now None kept (Err error) = ⊥
TakesUp old new was now (Some head) kept (Ok done) =
    TakesUpHead old new was now head × (kept ≡ None)
TakesUp old new was now (Some head) kept (Err error) =
    (new ≡ old) × (now ≡ was) × (kept ≡ Some head) × AskFault head error
