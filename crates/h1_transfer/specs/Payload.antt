-- Reading a body (RFC 9112, sections 6 and 8).
use Rattle.std.specs.Prelude.{◌≡◌, ℕ, ◌≤◌, ◌+◌, ◌<◌, nat_lt, List, [], Option, None, option_map, Result}
use Rattle.h1_transfer.specs.Words.{Poll, Error, ErrorType, LinkState, Rose, unfinished, reads}
use Rattle.h1_transfer.specs.Budget.{allowance}
use Rattle.h1_transfer.specs.Deadline.{IsTimed}
use Rattle.h1_transfer.specs.ReadWaits.{noted_part, noted_rest}
use Rattle.h1_transfer.specs.declared.deadline.Deadline.{Deadline}
use Rattle.h1_transfer.specs.declared.since.DrainLimits.{DrainLimits}
use Rattle.h1_transfer.specs.Decoding.{ReadsBody, IsUnfinished}
use Rattle.h1_transfer.specs.TransferView.{TransferView, Holds}
use Rattle.h1_transfer.specs.BodyAnswers.{RefusesBody, PartAnswer, RestAnswer}
pub use Rattle.h1_transfer.specs.BodyAnswers.{refused_for_good, refused_behind}

-- when each refusal of the body comes
abbrev pub BodyRefusal : {L : Type 0} → (L → LinkState) → TransferView L → TransferView L
    → ErrorType → Type 0
BodyRefusal state old new kind =
    RefusesBody (state old.link) (state new.link) new.body.kept new.body.reader new.received kind

-- when each answer of a read of a part of the body comes
abbrev pub PayloadAnswer : {L : Type 0} → (L → LinkState) → TransferView L → TransferView L → List ℕ
    → ℕ → Poll (Result (Option (List ℕ)) Error) → Type 0
PayloadAnswer state old new payload left outcome = PartAnswer (state old.link) (state new.link)
    old.body.waits new.body new.received payload left outcome

-- one call that reads a part of the body, which may wait for the link so long
pub record ReadsPayload {L S : Type 0} (state : L → LinkState) (holds : Holds L S)
    (deadline : Deadline) (old new : S) (outcome : Poll (Result (Option (List ℕ)) Error))
    : Type 0 where
  pub payload : List ℕ
  pub left : ℕ
  -- what was received before is used before any read
  pub parsed : left < allowance (holds.transfer old).budget
      → reads (holds.transfer old).body.reader (holds.transfer old).received ≡ unfinished []
  pub reads : ReadsBody (state (holds.transfer old).link) (state (holds.transfer new).link)
      (holds.transfer old).received (holds.transfer new).received (holds.transfer old).body.reader
      (holds.transfer new).body.reader
      (holds.transfer old).body.kept (holds.transfer new).body.kept
      (allowance (holds.transfer old).budget) left payload
  pub budget : (holds.transfer new).budget ≡ option_map (λ _. left) (holds.transfer old).budget
  -- all else stays
  pub rest : new ≡ holds.put old (record (holds.transfer old) {
    link = (holds.transfer new).link;
    received = (holds.transfer new).received;
    budget = (holds.transfer new).budget;
    body = (holds.transfer new).body;
  })
  -- a read was not ready at most once
  pub few : (state (holds.transfer new).link).read_waits
      ≤ (state (holds.transfer old).link).read_waits + 1
  pub answer : PayloadAnswer state (holds.transfer old) (holds.transfer new) payload left outcome
  pub timed : IsTimed (noted_part (Rose (state (holds.transfer old).link).read_waits
      (state (holds.transfer new).link).read_waits)
      deadline (nat_lt left (allowance (holds.transfer old).budget)) (holds.transfer old).body.since
      (holds.transfer new).body.since) left outcome
  -- what a read of the rest noted is dropped
  pub undrained : (holds.transfer new).body.since.drain ≡ None

-- when each answer of a drain comes
abbrev pub DrainAnswer : {L : Type 0} → (L → LinkState) → TransferView L → TransferView L → ℕ
    → Poll (Result (Unit {0}) Error) → Type 0
DrainAnswer state old new left outcome =
    RestAnswer (state old.link) (state new.link) new.body new.received left outcome

-- one call that reads the rest of the body, which may wait for the link so long
pub record DrainsBody {L S : Type 0} (state : L → LinkState) (holds : Holds L S)
    (limits : DrainLimits) (old new : S) (outcome : Poll (Result (Unit {0}) Error)) : Type 0 where
  pub payload : List ℕ
  pub left : ℕ
  -- what was received before is used before any read
  pub parsed : left < allowance (holds.transfer old).budget
      → IsUnfinished (reads (holds.transfer old).body.reader (holds.transfer old).received)
  pub reads : ReadsBody (state (holds.transfer old).link) (state (holds.transfer new).link)
      (holds.transfer old).received (holds.transfer new).received (holds.transfer old).body.reader
      (holds.transfer new).body.reader
      (holds.transfer old).body.kept (holds.transfer new).body.kept
      (allowance (holds.transfer old).budget) left payload
  pub budget : (holds.transfer new).budget ≡ option_map (λ _. left) (holds.transfer old).budget
  -- all else stays
  pub rest : new ≡ holds.put old (record (holds.transfer old) {
    link = (holds.transfer new).link;
    received = (holds.transfer new).received;
    budget = (holds.transfer new).budget;
    body = record (holds.transfer new).body { waits = (holds.transfer old).body.waits };
  })
  pub few : (state (holds.transfer new).link).read_waits
      ≤ (state (holds.transfer old).link).read_waits + 1
  pub answer : DrainAnswer state (holds.transfer old) (holds.transfer new) left outcome
  pub timed : IsTimed (noted_rest (Rose (state (holds.transfer old).link).read_waits
      (state (holds.transfer new).link).read_waits)
      limits (nat_lt left (allowance (holds.transfer old).budget)) (holds.transfer old).body.since
      (holds.transfer new).body.since) left outcome
