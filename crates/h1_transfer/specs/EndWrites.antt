-- Writing the end of a body (RFC 9112, sections 6.3 and 7.1).
use Rattle.std.specs.Prelude.{◌≡◌, ℕ, ◌≤◌, List, [], Bool, true, false, Option, Some, None, Result, Ok, Err}
use Rattle.h1_transfer.specs.Words.{Poll, Ready, Pending, Error, LinkState, end_bytes, is_short, Outgoing, Step, Free, Head, Piece, Finish}
use Rattle.h1_error.specs.declared.error.ErrorType.TheVariants as kind
use Rattle.h1_transfer.specs.ReplyFraming.{is_begun}
use Rattle.h1_transfer.specs.TransferView.{Holds}
use Rattle.h1_transfer.specs.Writes.{Writes, IsSameMessage, IsFree, IsWaiting, IsRefused}

-- what a call does with the end of the body: it starts it, finds that the body is short of its
-- length, or goes on with it
pub data EndStage : Type 0 where
  starts falls_short goes_on : EndStage

-- None where no body was begun, or it was ended before
abbrev pub end_stage : Step → Bool → Bool → Option EndStage
end_stage Free true true = Some falls_short
end_stage Free true false = Some starts
end_stage Free false short = None
end_stage Finish begun short = Some goes_on
end_stage Head begun short = None
end_stage (Piece count) begun short = None

-- the stage at which a call finds this message
abbrev pub stage_of : Outgoing → Option EndStage
stage_of outgoing = end_stage outgoing.step (is_begun outgoing.writer) (is_short outgoing.writer)

-- the end of the body is taken up by the call that starts it, and marks the body ended
abbrev pub EndTaking : Outgoing → Outgoing → List ℕ → EndStage → Type 0
EndTaking old new taking starts =
    (taking ≡ end_bytes old.writer) × (new.headed ≡ old.headed)
    × (new.writer ≡ record old.writer { ended = true }) × (new.handed ≡ old.handed)
    × (new.write_since ≡ old.write_since)
EndTaking old new taking falls_short = ⊥
EndTaking old new taking goes_on = (taking ≡ []) × IsSameMessage old new

-- the answer of a call that ends the body: how much payload was taken in all, once it is flushed
abbrev pub EndAnswer : LinkState → LinkState → Outgoing → Outgoing → ℕ
    → Poll (Result (Option ℕ) Error) → Type 0
EndAnswer before now old new left (Ready (Ok count)) =
    IsFree new × (count ≡ Some old.writer.written) × (now.bytes_out ≤ now.flushed)
EndAnswer before now old new left Pending = IsWaiting before now new Finish left
EndAnswer before now old new left (Ready (Err error)) =
    IsRefused before now new Finish error error.kind × (error.retry ≡ false)

-- one call that writes the end of the body
pub record WritesEnd {L S : Type 0} (state : L → LinkState) (holds : Holds L S) (old new : S)
    (stage : EndStage) (outcome : Poll (Result (Option ℕ) Error)) : Type 0 where
  pub taking : List ℕ
  pub left : ℕ
  pub writes : Writes state holds old new taking left
  pub takes : EndTaking (holds.transfer old).outgoing (holds.transfer new).outgoing taking stage
  pub answer : EndAnswer (state (holds.transfer old).link) (state (holds.transfer new).link)
      (holds.transfer old).outgoing (holds.transfer new).outgoing left outcome

-- the body ended, and nothing written of it
abbrev pub ended_short : Outgoing → Outgoing
ended_short outgoing = record outgoing { writer = record outgoing.writer { ended = true } }

-- a body that ends short of its length is refused as it ends, and nothing is written
pub record EndsShort {L S : Type 0} (holds : Holds L S) (old new : S)
    (outcome : Poll (Result (Option ℕ) Error)) : Type 0 where
  pub ends : new
      ≡ holds.put old
      (record (holds.transfer old) { outgoing = ended_short (holds.transfer old).outgoing })
  pub answer : outcome ≡ Ready (Err (record { kind = kind.PrematureBodyEnd; retry = false }))

-- no end is there to write
pub record WritesNoEnd {S : Type 0} (old new : S)
    (outcome : Poll (Result (Option ℕ) Error)) : Type 0 where
  pub same : new ≡ old
  pub answer : outcome ≡ Ready (Ok None)

-- one call at the end of the body
abbrev pub EndCall : {L S : Type 0} → (L → LinkState) → Holds L S → S → S
    → Poll (Result (Option ℕ) Error) → Option EndStage → Type 0
EndCall state holds old new outcome None = WritesNoEnd old new outcome
EndCall state holds old new outcome (Some falls_short) = EndsShort holds old new outcome
EndCall state holds old new outcome (Some starts) = WritesEnd state holds old new starts outcome
EndCall state holds old new outcome (Some goes_on) = WritesEnd state holds old new goes_on outcome
