-- Heads at the front of what is received, and what reading one comes to (RFC 9112, sections 2.2 and 8).
use Rattle.std.specs.Prelude.{◌≡◌, ℕ, ◌<◌, ◌≤◌, ◌+◌, nat_lt, List, [], length, Bool, true, false, Option, Some, None, option_map}
use Rattle.h1_error.specs.declared.head_fault.HeadFault.{HeadFault}
use Rattle.h1_transfer.specs.Words.{LinkState, Rose}
use Rattle.h1_transfer.specs.Budget.{allowance}
use Rattle.h1_transfer.specs.Deadline.{Wait, start_of, left_of, is_over}
use Rattle.h1_transfer.specs.declared.deadline.Deadline.{Deadline}
use Rattle.h1_transfer.specs.declared.deadline.Went.{Went}
use Rattle.h1_transfer.specs.declared.deadline.Went.TheVariants as w
use Rattle.h1_transfer.specs.Calls.{Fault, no_fault, read_fault}
use Rattle.h1_transfer.specs.Moved.{Received}
use Rattle.h1_transfer.specs.TransferView.{TransferView}
use Rattle.h1_transfer.specs.declared.head.HeadFound.{HeadFound}
use Rattle.h1_transfer.specs.declared.head.HeadFound.TheVariants as head
use Rattle.h1_transfer.specs.declared.reading_head.HeadRead.{HeadRead}
use Rattle.h1_transfer.specs.declared.reading_head.HeadRead.TheVariants as h
use Rattle.h1_transfer.specs.declared.reading_head.HeadStop.{HeadStop}
use Rattle.h1_transfer.specs.declared.reading_head.HeadStop.TheVariants as s

-- what a search says of the bytes, and what it found
abbrev pub FoundIn : {H : Type 0} → (List ℕ → ℕ → H → Type 0) → (List ℕ → HeadFault → Type 0)
    → (List ℕ → Type 0)
    → List ℕ → H → HeadFound → Type 0
FoundIn is_at refuses lacks bytes found (head.Whole n) = is_at bytes n found
FoundIn is_at refuses lacks bytes found (head.Refused fault) = refuses bytes fault
FoundIn is_at refuses lacks bytes found head.NotYet = lacks bytes

-- when the reading of a head stops, with the bytes that are received and not used then
abbrev pub StopCause : (List ℕ → HeadFault → Type 0) → (List ℕ → Type 0) → LinkState → LinkState
    → List ℕ → ℕ → HeadStop → Type 0
StopCause refuses lacks before now received left (s.Refused fault) = refuses received fault
StopCause refuses lacks before now received left s.Closed = (now.ended ≡ true) × (received ≡ [])
StopCause refuses lacks before now received left s.Cut =
    (now.ended ≡ true) × lacks received × (0 < length received)
StopCause refuses lacks before now received left s.NotReady =
    Rose before.read_waits now.read_waits × lacks received
StopCause refuses lacks before now received left s.Late =
    Rose before.read_waits now.read_waits × lacks received
StopCause refuses lacks before now received left s.Spent = (left ≡ 0) × lacks received
StopCause refuses lacks before now received left s.Failed =
    Rose before.read_faults now.read_faults × lacks received
StopCause refuses lacks before now received left s.NoMemory = Unit {0}

-- when each answer of a head read comes, and what was found with it
abbrev pub HeadCause : {H : Type 0} → (List ℕ → ℕ → H → Type 0) → (List ℕ → HeadFault → Type 0)
    → (List ℕ → Type 0)
    → LinkState → LinkState → List ℕ → ℕ → H → HeadRead → Type 0
HeadCause is_at refuses lacks before now received left found (h.Whole n) =
    is_at received n found × (now.read_waits ≡ before.read_waits)
HeadCause is_at refuses lacks before now received left found (h.Stopped stop) =
    StopCause refuses lacks before now received left stop

-- how a read of a head went that came to this
abbrev pub went_with : HeadRead → Went
went_with (h.Whole n) = w.Done
went_with (h.Stopped s.NotReady) = w.Waited
went_with (h.Stopped _) = w.Stopped

-- since when the reading of a head waits, and whether it is late, by what it came to
abbrev pub HeadIsTimed : Wait → Option ℕ → HeadRead → Type 0
HeadIsTimed wait since (h.Whole n) = since ≡ None
HeadIsTimed wait since (h.Stopped s.NotReady) =
    (since ≡ Some (start_of wait)) × (is_over wait ≡ false)
HeadIsTimed wait since (h.Stopped s.Late) =
    (since ≡ Some (start_of wait)) × (is_over wait ≡ true)
HeadIsTimed wait since (h.Stopped stop) = since ≡ left_of wait

-- a read of a head that is not ready is late where its limit is reached
abbrev pub judged_head : Bool → HeadRead → HeadRead
judged_head true (h.Stopped s.NotReady) = h.Stopped s.Late
judged_head _ read = read

-- a head is whole
abbrev pub is_whole_head : HeadRead → Bool
is_whole_head (h.Whole n) = true
is_whole_head (h.Stopped stop) = false

-- the fault of the link that stopped the reading of a head
abbrev pub fault_of_stop : HeadStop → Fault
fault_of_stop s.Failed = read_fault
fault_of_stop _ = no_fault

-- the fault of the link that a read of a head met
abbrev pub fault_of_head : HeadRead → Fault
fault_of_head (h.Whole n) = no_fault
fault_of_head (h.Stopped stop) = fault_of_stop stop

-- what a read of a head took from its link
pub record ReceivesHead (lacks : List ℕ → Type 0) (before now : LinkState) (old new : List ℕ)
    (budget left : ℕ) : Type 0 where
  pub received : Received before now old new budget left
  -- what was received before is parsed before any read
  pub parsed : left < budget → lacks old
  -- a read was not ready at most once
  pub few : now.read_waits ≤ before.read_waits + 1

-- one read of a head, which stays among the received bytes
pub record ReadsHead {L H : Type 0} (state : L → LinkState) (is_at : List ℕ → ℕ → H → Type 0)
    (refuses : List ℕ → HeadFault → Type 0) (lacks : List ℕ → Type 0) (deadline : Deadline)
    (old new : TransferView L) (found : H) (read : HeadRead) : Type 0 where
  pub left : ℕ
  pub receives : ReceivesHead lacks (state old.link) (state new.link) old.received new.received
      (allowance old.budget) left
  pub budget : new.budget ≡ option_map (λ _. left) old.budget
  -- all else stays
  pub rest : new ≡ record old {
    link = new.link;
    received = new.received;
    budget = new.budget;
    body = record old.body { since = record old.body.since { read = new.body.since.read } };
  }
  pub cause : HeadCause is_at refuses lacks (state old.link) (state new.link) new.received left found
      read
  pub timed : HeadIsTimed (record {
    deadline = deadline;
    moved = nat_lt left (allowance old.budget);
    since = old.body.since.read;
  }) new.body.since.read read
