-- What the owner of a link in memory set, which each call of the link leaves as it is.
use Rattle.std.specs.Prelude.{◌≡◌, refl, ℕ, Bool, true, if◌then◌else◌}
use Rattle.std.proofs.Common.{◌∙◌}
use Rattle.h1_link.specs.Counts.{raised}
use Rattle.h1_link.specs.Gate.{IsBlocked, gate_from}
use Rattle.h1_link.specs.MemState.{MemState}

-- the count of faults once the planned one, if there is one, is met
abbrev pub faults_due : Bool → ℕ → ℕ
faults_due planned count = if planned then raised count 1 else count

-- a read's fault was planned before as well, and no read gave a byte or met the end
pub record NothingRead (old new : MemState) : Type 0 where
  pub planned : old.read_fault ≡ true
  pub given : new.state.given ≡ old.state.given
  pub ended : new.state.ended ≡ old.state.ended

-- a write's fault was planned before as well, and no write took a byte
pub record NothingTaken (old new : MemState) : Type 0 where
  pub planned : old.write_fault ≡ true
  pub written : new.state.written ≡ old.state.written

-- the link was blocked before as well, and no write took a byte
pub record NothingPassed (old new : MemState) : Type 0 where
  pub blocked : IsBlocked old.gate
  pub written : new.state.written ≡ old.state.written

-- the link wasn't blocked before either, and every flush was ready
pub record FlushesReady (old new : MemState) : Type 0 where
  pub free : IsBlocked old.gate → ⊥
  pub waits : new.flush_waits ≡ old.flush_waits

-- between two moments the link's owner set nothing: each call of the trait leaves all this as it is
pub record SamePlan (old new : MemState) : Type 0 where
  pub put : new.put ≡ old.put
  pub end_at : new.end_at ≡ old.end_at
  pub reads_noted : new.reads_noted ≡ old.reads_noted
  pub writes_noted : new.writes_noted ≡ old.writes_noted
  pub gate : gate_from new.gate new.state.bytes_out ≡ gate_from old.gate old.state.bytes_out
  pub read_faults : faults_due new.read_fault new.state.read_faults
      ≡ faults_due old.read_fault old.state.read_faults
  pub write_faults : faults_due new.write_fault new.state.write_faults
      ≡ faults_due old.write_fault old.state.write_faults
  -- a fault that is still planned was not met, and nothing goes through a link that is blocked
  pub reads_stop : new.read_fault ≡ true → NothingRead old new
  pub writes_stop : new.write_fault ≡ true → NothingTaken old new
  pub block : IsBlocked new.gate → NothingPassed old new
  -- every flush is ready while the link isn't blocked
  pub flushes : (IsBlocked new.gate → ⊥) → FlushesReady old new

-- the plan stays where nothing happens
pub plan_itself : (link : MemState) → SamePlan link link
plan_itself link = record {
  put = refl;
  end_at = refl;
  reads_noted = refl;
  writes_noted = refl;
  gate = refl;
  read_faults = refl;
  write_faults = refl;
  reads_stop = λ planned. record { planned = planned; given = refl; ended = refl };
  writes_stop = λ planned. record { planned = planned; written = refl };
  block = λ blocked. record { blocked = blocked; written = refl };
  flushes = λ free. record { free = free; waits = refl };
}

read_on : (a b c : MemState) → (b.read_fault ≡ true → NothingRead a b) → NothingRead b c
    → NothingRead a c
read_on a b c first second =
    let before = first second.planned in
    record {
      planned = before.planned;
      given = second.given ∙ before.given;
      ended = second.ended ∙ before.ended;
    }

taken_on : (a b c : MemState) → (b.write_fault ≡ true → NothingTaken a b) → NothingTaken b c
    → NothingTaken a c
taken_on a b c first second =
    let before = first second.planned in
    record { planned = before.planned; written = second.written ∙ before.written }

passed_on : (a b c : MemState) → (IsBlocked b.gate → NothingPassed a b) → NothingPassed b c
    → NothingPassed a c
passed_on a b c first second =
    let before = first second.blocked in
    record { blocked = before.blocked; written = second.written ∙ before.written }

flushes_on : (a b c : MemState) → ((IsBlocked b.gate → ⊥) → FlushesReady a b) → FlushesReady b c
    → FlushesReady a c
flushes_on a b c first second =
    let before = first second.free in
    record { free = before.free; waits = second.waits ∙ before.waits }

-- the plan stays over two stretches where it stays over each
pub plan_on : (a b c : MemState) → SamePlan a b → SamePlan b c → SamePlan a c
plan_on a b c first second = record {
  put = second.put ∙ first.put;
  end_at = second.end_at ∙ first.end_at;
  reads_noted = second.reads_noted ∙ first.reads_noted;
  writes_noted = second.writes_noted ∙ first.writes_noted;
  gate = second.gate ∙ first.gate;
  read_faults = second.read_faults ∙ first.read_faults;
  write_faults = second.write_faults ∙ first.write_faults;
  reads_stop = λ planned. read_on a b c first.reads_stop (second.reads_stop planned);
  writes_stop = λ planned. taken_on a b c first.writes_stop (second.writes_stop planned);
  block = λ blocked. passed_on a b c first.block (second.block blocked);
  flushes = λ free. flushes_on a b c first.flushes (second.flushes free);
}
