-- Lemmas on waits for a head in scripts whose polls are all at one moment.
use Rattle.std.proofs.Common.{◌≡◌, ◌==◌, ◌⊎◌, inl, inr, ℕ, ◌+◌, ◌≤◌, length, Bool, true, false, Option, Some, None, refl, sym, ◌∙◌, ap, arith}
use Rattle.std.specs.Prelude.{if◌then◌else◌}
use Rattle.std.proofs.lemmas.Bool.Decides.{nat_tests}
use Rattle.h1_link.specs.LinkState.{LinkState}
use Rattle.h1_transfer.specs.Deadline.{is_late, left_of, start_of}
use Rattle.h1_app.specs.Timely.{IsLateHead, WaitsInTime, head_milliseconds, wait_at}
use Rattle.h1_app.specs.Work.{Work, head_since, reads_head, untimed}
use Rattle.h1_serve.specs.PollLine.{work_before}
use Rattle.h1_serve.specs.State.{State}

-- nothing waits, or since this moment
abbrev pub IsSinceHere : ℕ → Option ℕ → Type 0
IsSinceHere moment since = (since ≡ None) ⊎ (since ≡ Some moment)

-- so what waits does since this moment
start_here : (moment : ℕ) (limit : Option ℕ) (moved : Bool) (since : Option ℕ)
    → IsSinceHere moment since → start_of (wait_at moment limit moved since) ≡ moment
start_here moment limit true since here = refl
start_here moment limit false None here = refl
start_here moment limit false (Some before) (inl none) = absurd cc
start_here moment limit false (Some before) (inr is) = cc

left_here : (moment : ℕ) (limit : Option ℕ) (moved : Bool) (since : Option ℕ)
    → IsSinceHere moment since → IsSinceHere moment (left_of (wait_at moment limit moved since))
left_here moment limit true since here = inl refl
left_here moment limit false since here = here

-- and no head is late at it
pub never_late : (moment : ℕ) (moved : Bool) (before work : Work)
    → IsSinceHere moment (head_since before) → IsLateHead moment moved before work → ⊥
never_late moment moved before (reads_head since) here late =
    let over : is_late (record { moment = moment; limit = Some head_milliseconds }) moment ≡ true =
    ap (λ start. is_late (record { moment = moment; limit = Some head_milliseconds }) start)
    (sym (start_here moment (Some head_milliseconds) moved (head_since before) here)) ∙ late in
    let reached : moment + head_milliseconds ≤ moment = grind (arith, nat_tests, over) in
    omega (arith, reached)
never_late moment moved before _ here late = late

-- the same of what the connection did before a poll and still does
pub since_before : (moment : ℕ) (s t : State) → IsSinceHere moment (head_since s.work)
    → IsSinceHere moment (head_since (work_before s t))
since_before moment s t here = by (length s.done == length t.done) where
  by : (test : Bool) → IsSinceHere moment (head_since (if test then s.work else untimed))
  by true = here
  by false = inl refl

-- and of what it does after one
pub since_behind : (moment : ℕ) (old new : LinkState) (before work : Work) (spent : Type 0)
    → IsSinceHere moment (head_since before) → WaitsInTime moment old new before work spent
    → IsSinceHere moment (head_since work)
since_behind moment old new before (reads_head since) spent here w = elim w.waits [
  | inl waits ↦ inr (waits.noted ∙ ap Some
      (start_here moment (Some head_milliseconds) w.moved (head_since before) here))
  | inr stops ↦ rw stops.1 (left_here moment (Some head_milliseconds) w.moved (head_since before) here)
]
since_behind moment old new before _ spent here w = inl refl
