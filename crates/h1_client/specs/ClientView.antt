-- What contracts see of a client's session.
use Rattle.std.specs.Prelude.{◌≡◌, ℕ, zero, suc, Bool, true, false, Option, Some, None}
use Rattle.h1_client.specs.Words.{Poll, Pending, Ready, Error, RequestView, ResponseView, TransferView}
use Rattle.h1_client.specs.Responses.{final_of}
use Rattle.h1_transfer.specs.TransferView.{IsNewTransfer}
use Rattle.h1_client.specs.declared.answered.Answered.{Answered}
use Rattle.h1_client.specs.declared.asked.Asked.{Asked}
use Rattle.h1_client.specs.declared.keeping.Keepalive.{Keepalive}
use Rattle.h1_client.specs.declared.keeping.Keepalive.TheVariants.{Off}
use Rattle.h1_client.specs.declared.settings.Settings.{Settings}

pub record ClientView (L : Type 0) : Type 0 where
  pub transfer : TransferView L
  -- the request, once its head was taken up
  pub asked : Asked
  -- the responses, whose heads are read one by one
  pub answered : Answered
  -- whether the link may serve the next request, as `respect_keepalive` said last
  pub keepalive : Keepalive
  pub settings : Settings
  -- how many bytes of payload were read of the final response's body
  pub payload_read : ℕ
  -- the last call stopped because its link calls that moved bytes were as many as it may make
  pub spent : Bool

-- the request of a session
abbrev pub request_of : {L : Type 0} → ClientView L → Option RequestView
request_of s = s.asked.request

-- its final response
abbrev pub response_of : {L : Type 0} → ClientView L → Option ResponseView
response_of s = final_of s.answered.last

-- Each call may make 64 link calls that move bytes, whatever those before it made.
abbrev pub call_begun : {L : Type 0} → ClientView L → ClientView L
call_begun s = record s { transfer = record s.transfer { budget = Some 64 } }

-- a call is pending, and none of its link calls that may move bytes is left
abbrev pub is_spent : {T : Type 0} → Poll T → Option ℕ → Bool
is_spent (Ready answer) left = false
is_spent Pending None = false
is_spent Pending (Some zero) = true
is_spent Pending (Some (suc left)) = false

-- the first refusal of two
abbrev pub first_refusal : Option Error → Option Error → Option Error
first_refusal (Some error) other = Some error
first_refusal None other = other

-- the refusal of the request's writing, which each later write answers
abbrev pub write_refusal : {L : Type 0} → ClientView L → Option Error
write_refusal s = first_refusal s.asked.late s.transfer.outgoing.refused

-- a session over this link that asked nothing yet
pub record IsNewSession {L : Type 0} (over : L) (said : Settings) (new : ClientView L) : Type 0 where
  pub link : new.transfer.link ≡ over
  -- nothing is received, and nothing is owed
  pub transfer : IsNewTransfer over new.transfer
  pub request : new.asked.request ≡ None
  pub in_time : new.asked.late ≡ None
  -- no wait began
  pub unwaited : new.asked.since ≡ None
  pub response : new.answered.last ≡ None
  pub unrefused : new.answered.refused ≡ None
  pub keepalive : new.keepalive ≡ Off
  pub settings : new.settings ≡ said
  pub unread : new.payload_read ≡ 0
  pub spent : new.spent ≡ false
