-- Reading the body of the final response (RFC 9112, sections 6 and 8).
use Rattle.std.specs.Prelude.{◌≡◌, ℕ, ◌+◌, ◌-◌, ◌^◌, min, Bool, true, false, List, length, Option, Some, None, IfSome, IfNone, Result, Ok, Err}
use Rattle.h1_error.specs.declared.error.ErrorType.TheVariants as kind
use Rattle.h1_body.specs.Reader.{is_until_close}
use Rattle.h1_transfer.specs.Calls.{Called, read_fault_of}
use Rattle.h1_transfer.specs.Payload.{ReadsPayload}
use Rattle.h1_client.specs.Words.{Poll, Pending, Ready, Error, ErrorType, RequestView, ResponseView, LinkState, itself}
use Rattle.h1_client.specs.ClientView.{ClientView, call_begun, is_spent, request_of, response_of}
use Rattle.h1_client.specs.Responses.{framing_to}
use Rattle.h1_client.specs.Settings.{read_deadline}

-- the body of the final response is read until the link ends
abbrev pub ends_with_link : Option RequestView → Option ResponseView → Bool
ends_with_link (Some request) (Some said) = is_until_close (framing_to request said)
ends_with_link None final = false
ends_with_link request None = false

-- what a read of the body answers: the end of the link is the end of a body that is read until then
abbrev pub at_link_end : Bool → Poll (Result (Option (List ℕ)) Error)
    → Poll (Result (Option (List ℕ)) Error)
at_link_end true (Ready (Err error)) = by error.kind error where
  by : ErrorType → Error → Poll (Result (Option (List ℕ)) Error)
  by kind.ConnectionClosed error = Ready (Ok None)
  by _ error = Ready (Err error)
at_link_end _ told = told

-- how much payload was read behind a call with this answer; the count stands still at the largest
-- number
abbrev pub payload_behind : ℕ → Poll (Result (Option (List ℕ)) Error) → ℕ
payload_behind count (Ready (Ok (Some piece))) = min (count + length piece) (2 ^ 64 - 1)
payload_behind count (Ready (Ok None)) = count
payload_behind count (Ready (Err error)) = count
payload_behind count Pending = count

-- a part of the final response's body is read
pub record ReadsPart {L : Type 0} (state : L → LinkState) (now : ℕ) (old new : ClientView L)
    (outcome : Poll (Result (Option (List ℕ)) Error)) : Type 0 where
  pub told : Poll (Result (Option (List ℕ)) Error)
  -- a refusal is answered again, with no link call
  pub again : IfSome old.transfer.body.refused (λ error. (told ≡ Ready (Err error))
      × (new.transfer ≡ (call_begun old).transfer))
  pub reads : IfNone old.transfer.body.refused (ReadsPayload state itself
      (read_deadline old.settings now) (call_begun old).transfer new.transfer told)
  pub answer : outcome ≡ at_link_end (ends_with_link (request_of old) (response_of old)) told
  pub rest : new ≡ record old {
    transfer = new.transfer;
    payload_read = payload_behind old.payload_read outcome;
    spent = new.spent;
  }

-- One call that reads a part of the body, with all that it does to its session and its link.
pub record PartCall {L : Type 0} (state : L → LinkState) (same_plan : L → L → Type 0) (now : ℕ)
    (old new : ClientView L) (outcome : Poll (Result (Option (List ℕ)) Error)) : Type 0 where
  pub reads : ReadsPart state now old new outcome
  pub spent : new.spent ≡ is_spent outcome new.transfer.budget
  pub calls : Called (state old.transfer.link) (state new.transfer.link) false
      (read_fault_of outcome)
  pub plan : same_plan old.transfer.link new.transfer.link
