-- One request over a session that the connector handed out, and what came for it.
use Rattle.std.specs.Prelude.{◌≡◌, ◌≢◌, ◌⊎◌, ℕ, zero, suc, List, Bool, Option, Some, Result, Ok, Err}
use Rattle.h1_error.specs.declared.error.ErrorType.TheVariants as kind
use Rattle.h1_transfer.specs.BodyAnswers.{error_of}
use Rattle.h1_link.specs.DialerState.{DialerState}
use Rattle.h1_client.specs.Words.{Pending, Ready, Error, RequestView, ResponseView, LinkState}
use Rattle.h1_client.specs.ClientView.{ClientView, request_of, response_of}
use Rattle.h1_client.specs.Getting.{GetAnswer, is_kept}
use Rattle.h1_client.specs.declared.settings.Peer.{Peer}
use Rattle.h1_asking.specs.Reading.{Gives, count_of}
use Rattle.h1_asking.specs.Writing.{IsFlushed, Takes}
use Rattle.h1_asking.specs.declared.fetching.TheConstants.{MOST_POLLS}
use Rattle.h1_asking.specs.declared.fetching.Fault.{Fault}
use Rattle.h1_asking.specs.declared.fetching.Fault.TheVariants as fault
use Rattle.h1_asking.specs.declared.fetching.Fetched.{Fetched}

-- the connector was asked so often, and each time a dial waited
abbrev pub AfterWaits : {L D : Type 0} → (L → LinkState) → (D → DialerState) → Peer → ℕ → D → D
    → Type 0
AfterWaits state dials peer zero before now = now ≡ before
AfterWaits {L} {D} state dials peer (suc n) before now =
    (between : D) × AfterWaits state dials peer n before between
    × GetAnswer state dials peer between now Pending

-- the connector gave this answer, once no dial waited any more
pub record Connects {L D : Type 0} (state : L → LinkState) (dials : D → DialerState) (peer : Peer)
    (before now : D) (outcome : Result (ClientView L × Bool) Error) : Type 0 where
  pub waits : ℕ
  pub between : D
  pub waited : AfterWaits state dials peer waits before between
  pub answer : GetAnswer state dials peer between now (Ready outcome)

-- why there is no session: the connector says so, or dials waited too often
abbrev pub NoSession : {L D : Type 0} → (L → LinkState) → (D → DialerState) → Peer → D → D → Error
    → Type 0
NoSession state dials peer before now error =
    Connects state dials peer before now (Err error)
    ⊎ ((error ≡ error_of kind.ReadTimedout) × AfterWaits state dials peer MOST_POLLS before now)

-- One exchange over a session: its link took this request with this body, and nothing else, and gave
-- a final response to it. All that it took was flushed before the first byte of the responses was
-- read. The status is that of the response, whose payload has so many bytes.
pub record Exchanges {L : Type 0} (state : L → LinkState) (request : RequestView)
    (body : Option (List ℕ)) (old new : ClientView L) (status length : ℕ) : Type 0 where
  pub said : ResponseView
  pub payload : List ℕ
  pub takes : Takes (state old.transfer.link).written (state new.transfer.link).written request body
  -- the link, once the request was written
  pub asked_over : L
  pub wrote : (state new.transfer.link).written ≡ (state asked_over).written
  pub flushed : IsFlushed (state asked_over)
  pub unread : (state asked_over).given ≡ (state old.transfer.link).given
  pub gives : Gives (state old.transfer.link) (state new.transfer.link) request said payload
  -- what is received and not used stands behind the response
  pub behind : new.transfer.received ≡ gives.left
  pub asked : request_of new ≡ Some request
  pub answered : response_of new ≡ Some said
  pub status_is : status ≡ said.status
  pub length_is : length ≡ count_of payload

-- What came for a request: the connector handed out a session, over a link that served before or over
-- one that it dialled, as is told. This exchange was made over it, as is told of its status and its
-- length. What the session then was decided whether its link is kept for the next request, as is told.
pub record Fetches {L D : Type 0} (state : L → LinkState) (dials : D → DialerState) (peer : Peer)
    (request : RequestView) (body : Option (List ℕ)) (before now : D) (fetched : Fetched)
    : Type 0 where
  pub session : ClientView L
  pub connects : Connects state dials peer before now (Ok (session, fetched.is_reused))
  pub left : ClientView L
  pub exchanges : Exchanges state request body session left fetched.status fetched.length
  pub kept : fetched.is_kept ≡ is_kept left

-- why a request has no response: there is no session, or reading or writing failed over one that was
-- handed out; out of memory has no other cause
abbrev pub FetchFault : {L D : Type 0} → (L → LinkState) → (D → DialerState) → Peer → D → D → Fault
    → Type 0
FetchFault state dials peer before now fault.Memory = Unit {0}
FetchFault state dials peer before now (fault.Server error) =
    (error.kind ≢ kind.NoMemory) × NoSession state dials peer before now error
FetchFault {L} {D} state dials peer before now (fault.Response error) =
    (error.kind ≢ kind.NoMemory) × (session : ClientView L) × (is_reused : Bool)
    × Connects state dials peer before now (Ok (session, is_reused))

-- an error is want of memory, or told as this fault
abbrev pub IsFaultOf : (Error → Fault) → Error → Fault → Type 0
IsFaultOf wrap error result =
    (result ≡ fault.Memory) ⊎ ((error.kind ≢ kind.NoMemory) × (result ≡ wrap error))
