-- Lemmas on the reading of a head that is judged by its limit.
use Rattle.std.proofs.Common.{◌≡◌, ◌≢◌, ℕ, List, Bool, true, false, refl}
use Rattle.h1_error.specs.declared.head_fault.HeadFault.{HeadFault}
use Rattle.h1_transfer.specs.Words.{LinkState}
use Rattle.h1_transfer.proofs.Words.{Called}
use Rattle.h1_transfer.specs.Deadline.{Wait, is_over, since_behind}
use Rattle.h1_transfer.specs.Heads.{HeadCause, HeadIsTimed, fault_of_head, is_whole_head, judged_head, went_with}
use Rattle.h1_transfer.specs.declared.reading_head.HeadRead.{HeadRead}
use Rattle.h1_transfer.specs.declared.reading_head.HeadRead.TheVariants as h
use Rattle.h1_transfer.specs.declared.reading_head.HeadStop.TheVariants as s

-- the cause of a read that is late is that of one that is not ready
pub cause_judged : {H : Type 0} (is_at : List ℕ → ℕ → H → Type 0) (refuses : List ℕ → HeadFault → Type 0)
    (lacks : List ℕ → Type 0) (before now : LinkState) (received : List ℕ) (left : ℕ) (found : H)
    (late : Bool) (read : HeadRead) → HeadCause is_at refuses lacks before now received left found read
    → HeadCause is_at refuses lacks before now received left found (judged_head late read)
cause_judged is_at refuses lacks before now received left found false read cause = cause
cause_judged is_at refuses lacks before now received left found true (h.Whole n) cause = cause
cause_judged is_at refuses lacks before now received left found true (h.Stopped (s.Refused fault)) cause = cause
cause_judged is_at refuses lacks before now received left found true (h.Stopped s.Closed) cause = cause
cause_judged is_at refuses lacks before now received left found true (h.Stopped s.Cut) cause = cause
cause_judged is_at refuses lacks before now received left found true (h.Stopped s.NotReady) cause = cause
cause_judged is_at refuses lacks before now received left found true (h.Stopped s.Late) cause = cause
cause_judged is_at refuses lacks before now received left found true (h.Stopped s.Spent) cause = cause
cause_judged is_at refuses lacks before now received left found true (h.Stopped s.Failed) cause = cause
cause_judged is_at refuses lacks before now received left found true (h.Stopped s.NoMemory) cause = cause

-- a read that is late did to its link what one that is not ready did
pub called_judged : {before now : LinkState} (late : Bool) (read : HeadRead)
    → Called before now (is_whole_head read) (fault_of_head read)
    → Called before now (is_whole_head (judged_head late read)) (fault_of_head (judged_head late read))
called_judged false read calls = calls
called_judged true (h.Whole n) calls = calls
called_judged true (h.Stopped (s.Refused fault)) calls = calls
called_judged true (h.Stopped s.Closed) calls = calls
called_judged true (h.Stopped s.Cut) calls = calls
called_judged true (h.Stopped s.NotReady) calls = calls
called_judged true (h.Stopped s.Late) calls = calls
called_judged true (h.Stopped s.Spent) calls = calls
called_judged true (h.Stopped s.Failed) calls = calls
called_judged true (h.Stopped s.NoMemory) calls = calls

-- what is noted of a read, and whether it is late, go together
pub timed_judged : (wait : Wait) (read : HeadRead) → read ≢ h.Stopped s.Late
    → HeadIsTimed wait (since_behind (went_with read) wait) (judged_head (is_over wait) read)
timed_judged wait read unjudged = by (is_over wait) refl read unjudged where
  by : (late : Bool) → is_over wait ≡ late → (read : HeadRead) → read ≢ h.Stopped s.Late
      → HeadIsTimed wait (since_behind (went_with read) wait) (judged_head late read)
  by true is (h.Whole n) unjudged = refl
  by true is (h.Stopped (s.Refused fault)) unjudged = refl
  by true is (h.Stopped s.Closed) unjudged = refl
  by true is (h.Stopped s.Cut) unjudged = refl
  by true is (h.Stopped s.NotReady) unjudged = (refl, is)
  by true is (h.Stopped s.Late) unjudged = absurd (unjudged refl)
  by true is (h.Stopped s.Spent) unjudged = refl
  by true is (h.Stopped s.Failed) unjudged = refl
  by true is (h.Stopped s.NoMemory) unjudged = refl
  by false is (h.Whole n) unjudged = refl
  by false is (h.Stopped (s.Refused fault)) unjudged = refl
  by false is (h.Stopped s.Closed) unjudged = refl
  by false is (h.Stopped s.Cut) unjudged = refl
  by false is (h.Stopped s.NotReady) unjudged = (refl, is)
  by false is (h.Stopped s.Late) unjudged = absurd (unjudged refl)
  by false is (h.Stopped s.Spent) unjudged = refl
  by false is (h.Stopped s.Failed) unjudged = refl
  by false is (h.Stopped s.NoMemory) unjudged = refl
