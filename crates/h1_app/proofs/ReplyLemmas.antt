-- How an exchange goes on as its reply is written.
use Rattle.std.proofs.Common.{Bool, IfNone, IfSome, IsSome, List, None, Option, Some, [], ap, arith, false, inl, inr, length, option_map, refl, subst, suc, sym, true, zero, ℕ, ◌+◌, ◌-◌, ◌<◌, ◌∙◌, ◌≡◌, ◌⊎◌}
use Rattle.std.proofs.lemmas.Bool.{false≢true}
use Rattle.h1_app.specs.Words.{Entry, Error, ErrorType, FailureCause, FlushedBy, IsRefused, LinkState, Outgoing, Reply, ResponseView, Rose, SessionView, Stage, Step, Writes, allowance, written_of}
use Rattle.h1_application.proofs.ReadLemmas.{budget_itself, budget_none, budget_spent, within_itself, within_spent}
use Rattle.h1_transfer.proofs.MovedLemmas.{moved_itself}
use Rattle.h1_app.proofs.Words.{IsHeaded, MovesWithin, SettledSo, ahead, place}
use Rattle.h1_error.specs.declared.error.ErrorType.TheVariants as kind

pub at_none : {A : Type 0} (P : Type 0) (o : Option A) → o ≡ None → IfNone o P → P
at_none P o e h = rw e at h

pub at_some : {A : Type 0} (P : A → Type 0) (o : Option A) (x : A) → o ≡ Some x → IfSome o P → P x
at_some P o x e h = rw e at h

-- nothing was moved
pub moves_none : {L C : Type 0} (state : L → LinkState) (old new : SessionView L C)
    → new.link ≡ old.link → new.budget ≡ old.budget → new.context ≡ old.context
    → MovesWithin state old new
moves_none state old new link budget context = record {
  read = [];
  wrote = [];
  spent = 0;
  moved = rw link (moved_itself (state old.link));
  budget = budget ∙ budget_itself old.budget;
  within = within_itself old.budget;
  context = context;
}

-- what a call wrote was moved
pub moves_wrote : {L C : Type 0} (state : L → LinkState) (old new : SessionView L C) (flag : Bool)
    (taking : List ℕ) (left : ℕ)
    → Writes state (record old { keep = flag }) new taking left → MovesWithin state old new
moves_wrote state old new flag taking left w = record {
  read = [];
  wrote = w.sent.piece;
  spent = allowance old.budget - left;
  moved = w.sent.moved;
  budget = budget_spent old.budget new.budget left w.sent.within w.budget;
  within = within_spent old.budget left;
  context = (ap (λ s. s.context) w.rest);
}

-- fewer steps may follow where the stage's place goes down
pub ahead_down : {L C J : Type 0} (state : L → LinkState) (old new : SessionView L C)
    (from to : Stage J)
    → MovesWithin state old new → place to < place from
    → ahead new.budget to < ahead old.budget from
ahead_down state old new from to went less =
    subst (λ b. ahead b to < ahead old.budget from) (sym went.budget) (falls old.budget)
  where
    falls : (budget : Option ℕ)
        → ahead (option_map (λ left. left - went.spent) budget) to < ahead budget from
    falls None = less
    falls (Some left) = omega (arith, less)

-- and where a byte was written
pub ahead_wrote : {L C J : Type 0} (state : L → LinkState) (old new : SessionView L C)
    (flag : Bool) (taking : List ℕ) (left : ℕ) (from to : Stage J)
    → IsSome old.budget → (w : Writes state (record old { keep = flag }) new taking left)
    → 0 < length w.sent.piece → place to < place from + 10
    → ahead new.budget to < ahead old.budget from
ahead_wrote state old new flag taking left from to some w wrote less =
    subst (λ b. ahead b to < ahead old.budget from) (sym w.budget)
    (falls old.budget some (spends (allowance old.budget - left) refl))
  where
    spends : (spent : ℕ) → allowance old.budget - left ≡ spent → left < allowance old.budget
    spends zero is =
        let none : length w.sent.piece ≡ 0 = ap length ((w.sent.moved.free is).1) in
        omega (arith, none, wrote)
    spends (suc spent) is = omega (arith, is)

    falls : (budget : Option ℕ) → IsSome budget → left < allowance budget
        → ahead (option_map (λ _. left) budget) to < ahead budget from
    falls None h fewer = absurd (false≢true h)
    falls (Some all) h fewer = omega (arith, fewer, less)

-- why a write waits
pub waits_why : {L C : Type 0} (state : L → LinkState) (old new : SessionView L C) (flag : Bool)
    (taking : List ℕ) (left : ℕ)
    → IsSome old.budget → Writes state (record old { keep = flag }) new taking left
    → Rose (state old.link).write_waits (state new.link).write_waits ⊎ (left ≡ 0)
    → Rose (state old.link).write_waits (state new.link).write_waits ⊎ (new.budget ≡ Some 0)
waits_why state old new flag taking left some w (inl rose) = inl rose
waits_why state old new flag taking left some w (inr none) =
    inr (budget_none old.budget new.budget left some w.budget none)

-- nothing is asked of a reply while it is owed
pub settled_owed : (before now : LinkState) (done : List Entry) (e : Entry) → e.owed ≡ true
    → SettledSo before now done (Some e)
settled_owed before now done e owed = by_head e.sent_head where
  by_head : (head : Option ResponseView)
      → IfSome head (λ head. e.owed ≡ false → FlushedBy before now (written_of done + e.written))
  by_head None = tt
  by_head (Some head) = λ free. absurd (false≢true (sym free ∙ owed))

-- the header goes on where the session keeps what was taken up
pub headed_on : {L C : Type 0} (old new : SessionView L C) (e f : Entry) (sent : Reply)
    → f.sent_head ≡ e.sent_head → f.keep ≡ e.keep → f.owed ≡ e.owed
    → new.reply.headed ≡ old.reply.headed → new.keep ≡ old.keep → new.reply.refused ≡ None
    → IsHeaded e old sent → IsHeaded f new sent
headed_on old new e f sent head keep owed headed kept refused h = record {
  sent_head = head ∙ h.sent_head;
  headed = headed ∙ h.headed;
  keep = keep ∙ h.keep ∙ sym kept;
  refused = refused;
  owed = owed ∙ h.owed;
}

-- a write that was refused has its cause
pub refused_cause : (before old now : LinkState) (done : List Entry) (reply : Outgoing)
    (step : Step) (last : Option Entry) (error : Error) (k : ErrorType)
    → IsRefused old now reply step error k → FailureCause before old now done last error k
refused_cause before old now done reply step last error kind.WriteError h = h.0
refused_cause before old now done reply step last error kind.NoMemory h = tt
refused_cause before old now done reply step last error _ h = absurd h
