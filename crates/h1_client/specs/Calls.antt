-- What a call of a session does, with all that it does to its session and its link: those that write
-- the request, and those that read the head of a response.
use Rattle.std.specs.Prelude.{◌≡◌, ℕ, false, List, Option, IfSome, IfNone, Result, Err}
use Rattle.h1_transfer.specs.Calls.{Called, read_fault_of, succeeds, write_fault_of}
use Rattle.h1_transfer.specs.EndWrites.{EndCall, stage_of}
use Rattle.h1_transfer.specs.PieceWrites.{WritesPiece}
use Rattle.h1_client.specs.Words.{Poll, Ready, Error, RequestView, ResponseView, LinkState, TransferView, itself}
use Rattle.h1_client.specs.Asking.{AsksBy, StaysAsIs}
use Rattle.h1_client.specs.ClientView.{ClientView, call_begun, is_spent, write_refusal}
use Rattle.h1_client.specs.Reading.{CopyAnswer, ReadsResponse}
use Rattle.h1_client.specs.Settings.{write_deadline}
use Rattle.h1_client.specs.Upgrading.{EndsWithRequest, ends_both}

-- one call that writes the head of a request
pub record HeadWrite {L : Type 0} (state : L → LinkState) (same_plan : L → L → Type 0) (now : ℕ)
    (old new : ClientView L) (head kept : Option RequestView) (outcome : Poll (Result ℕ Error))
    : Type 0 where
  pub again : IfSome (write_refusal old)
      (λ error. (outcome ≡ Ready (Err error)) × StaysAsIs old new head kept)
  pub asks : IfNone (write_refusal old) (AsksBy state now old new head kept outcome)
  pub spent : new.spent ≡ is_spent outcome new.transfer.budget
  pub calls : Called (state old.transfer.link) (state new.transfer.link) false
      (write_fault_of outcome)
  pub plan : same_plan old.transfer.link new.transfer.link

-- one that writes a piece of its body
pub record PieceWrite {L : Type 0} (state : L → LinkState) (same_plan : L → L → Type 0) (now : ℕ)
    (old new : ClientView L) (piece kept : Option (List ℕ))
    (outcome : Poll (Result (Option ℕ) Error)) : Type 0 where
  pub again : IfSome old.transfer.outgoing.refused (λ error. (outcome ≡ Ready (Err error))
      × (new.transfer ≡ (call_begun old).transfer) × (kept ≡ piece))
  pub writes : IfNone old.transfer.outgoing.refused (WritesPiece state itself
      (write_deadline old.settings now) (call_begun old).transfer new.transfer piece kept outcome)
  pub rest : new ≡ record old {
    transfer = new.transfer;
    spent = is_spent outcome new.transfer.budget;
  }
  pub calls : Called (state old.transfer.link) (state new.transfer.link) (succeeds outcome)
      (write_fault_of outcome)
  pub plan : same_plan old.transfer.link new.transfer.link

-- One that writes its end. Where the body passed as it is, that of the response ends with it.
pub record EndWrite {L : Type 0} (state : L → LinkState) (same_plan : L → L → Type 0)
    (old new : ClientView L) (outcome : Poll (Result (Option ℕ) Error)) : Type 0 where
  -- what the write leaves
  pub sent : TransferView L
  pub again : IfSome old.transfer.outgoing.refused (λ error. (outcome ≡ Ready (Err error))
      × (sent ≡ (call_begun old).transfer))
  pub writes : IfNone old.transfer.outgoing.refused (EndCall state itself
      (call_begun old).transfer sent outcome (stage_of old.transfer.outgoing))
  pub ends : EndsWithRequest (ends_both sent outcome) sent new.transfer
  pub rest : new ≡ record old {
    transfer = new.transfer;
    spent = is_spent outcome new.transfer.budget;
  }
  pub calls : Called (state old.transfer.link) (state new.transfer.link) false
      (write_fault_of outcome)
  pub plan : same_plan old.transfer.link new.transfer.link

-- one that reads the head of a response
pub record HeadReading {L : Type 0} (state : L → LinkState) (same_plan : L → L → Type 0) (now : ℕ)
    (old new : ClientView L) (outcome : Poll (Result ℕ Error)) : Type 0 where
  pub again : IfSome old.answered.refused (λ error. (outcome ≡ Ready (Err error))
      × (new ≡ record (call_begun old) { spent = new.spent }))
  pub reads : IfNone old.answered.refused (ReadsResponse state now old new outcome)
  pub spent : new.spent ≡ is_spent outcome new.transfer.budget
  pub calls : Called (state old.transfer.link) (state new.transfer.link) false
      (read_fault_of outcome)
  pub plan : same_plan old.transfer.link new.transfer.link

-- one that reads the head of a response, and copies it
pub record HeadCopy {L : Type 0} (state : L → LinkState) (same_plan : L → L → Type 0) (now : ℕ)
    (old new : ClientView L) (outcome : Poll (Result ResponseView Error)) : Type 0 where
  pub told : Poll (Result ℕ Error)
  pub head : HeadReading state same_plan now old new told
  pub copies : CopyAnswer told new.answered.last outcome
