-- What each call that writes a part of a message comes to (RFC 9112, sections 4 to 7).
use Rattle.std.specs.Prelude.{◌≡◌, ℕ, ◌+◌, ◌^◌, min, ◌-◌, List, ◌++◌, length, None, option_map, Result}
use Rattle.h1_transfer.specs.Words.{Poll, Error, ErrorType, LinkState, Delivery, Outgoing, Step}
use Rattle.h1_transfer.specs.Moved.{Sent}
use Rattle.h1_transfer.specs.Budget.{allowance}
use Rattle.h1_transfer.specs.Writing.{OwesNothing, Waits, RefusesWrite, DeliveryAnswer, sent_after}
use Rattle.h1_transfer.specs.TransferView.{TransferView, Holds}

-- one call that writes: what was owed and what it takes up now is written in front
pub record Writes {L S : Type 0} (state : L → LinkState) (holds : Holds L S) (old new : S)
    (taking : List ℕ) (left : ℕ) : Type 0 where
  pub sent : Sent (state (holds.transfer old).link) (state (holds.transfer new).link)
      ((holds.transfer old).outgoing.owed ++ taking) (holds.transfer new).outgoing.owed
      (allowance (holds.transfer old).budget) left
  pub budget : (holds.transfer new).budget ≡ option_map (λ _. left) (holds.transfer old).budget
  -- all else stays
  pub rest : new ≡ holds.put old (record (holds.transfer old) {
    link = (holds.transfer new).link;
    outgoing = (holds.transfer new).outgoing;
    budget = (holds.transfer new).budget;
  })
  -- how many bytes of the message were written
  pub counted : (holds.transfer new).outgoing.sent
      ≡ min ((holds.transfer old).outgoing.sent + length sent.piece) (2 ^ 64 - 1)

-- what an outgoing message has beside the bytes that are owed, the step in progress, the refusal and
-- the wait of a piece
pub record IsSameBody (old new : Outgoing) : Type 0 where
  pub headed : new.headed ≡ old.headed
  pub writer : new.writer ≡ old.writer
  pub handed : new.handed ≡ old.handed

-- what an outgoing message has beside the bytes that are owed, the step in progress and the refusal
pub record IsSameMessage (old new : Outgoing) : Type 0 where
  pub headed : new.headed ≡ old.headed
  pub writer : new.writer ≡ old.writer
  pub handed : new.handed ≡ old.handed
  pub write_since : new.write_since ≡ old.write_since

-- no write is in progress, nothing is owed, and no write was refused
abbrev pub IsFree : Outgoing → Type 0
IsFree outgoing = OwesNothing None outgoing

-- a write that waits, where none was refused
abbrev pub IsWaiting : LinkState → LinkState → Outgoing → Step → ℕ → Type 0
IsWaiting before now outgoing step left = Waits None before now outgoing step left

-- when a write that was taken up is refused, where none was before
abbrev pub IsRefused : LinkState → LinkState → Outgoing → Step → Error → ErrorType → Type 0
IsRefused before now new step error kind = RefusesWrite None before now new step error kind

-- one call that goes on with the write in progress
pub record Delivers {L : Type 0} (state : L → LinkState) (how : Delivery) (old new : TransferView L)
    (outcome : Poll (Result (Unit {0}) Error)) : Type 0 where
  pub left : ℕ
  pub sent : Sent (state old.link) (state new.link) old.outgoing.owed new.outgoing.owed
      (allowance old.budget) left
  pub budget : new.budget ≡ option_map (λ _. left) old.budget
  -- all else stays
  pub rest : new ≡ record old { link = new.link; outgoing = new.outgoing; budget = new.budget }
  pub same : IsSameMessage old.outgoing new.outgoing
  pub counted : new.outgoing.sent
      ≡ sent_after old.outgoing.sent old.outgoing.owed new.outgoing.owed
  pub answer : DeliveryAnswer how old.outgoing.refused (state old.link) (state new.link)
      new.outgoing old.outgoing.step left outcome
