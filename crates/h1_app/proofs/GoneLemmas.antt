-- What steps of a connection leave, one after the other.
use Rattle.std.proofs.Common.{◌≡◌, ℕ, ◌+◌, ◌-◌, ◌<◌, ◌≤◌, ◌⊎◌, inl, inr, List, ◌++◌, length, Bool, true, false, Option, Some, None, IsSome, option_map, refl, sym, ◌∙◌, ap, length-append, arith}
use Rattle.h1_app.proofs.LeavesLemmas.{leaves_further, leaves_itself}
use Rattle.h1_app.specs.View.{work_of}
use Rattle.h1_app.specs.Work.{IsUnwaited}
use Rattle.h1_app.proofs.Words.{Leaves, WaitCause, PendedBy, Gone, Turned, still_calls, Accounted, MovesWithin, rank, WaitsOn, View, entries, Cause, PendedOn, PendedNew, JobNew, waiting_for, JobPends}
use Rattle.std.specs.Prelude.{◌==◌, if◌then◌else◌}
use Rattle.std.proofs.lemmas.Bool.{false≢true}
use Rattle.std.proofs.lemmas.Bool.Decides.{nat_tests}
use Rattle.std.specs.Io.KnownBytes.{append_known}
use Rattle.h1_app.specs.Words.{Error, ErrorType, End, Progress, Waiting, LinkState, Later, Rose, SessionView, Entry, Stage, FailureCause, EndCause, EndsBy, Filters, ToldGrowth}
use Rattle.h1_error.specs.declared.error.ErrorType.TheVariants as kind
use Rattle.h1_error.specs.declared.progress.End.TheVariants as end
use Rattle.h1_error.specs.declared.progress.Progress.TheVariants as progress
use Rattle.h1_error.specs.declared.progress.Waiting.TheVariants as waiting
use Rattle.h1_link.proofs.Laters.{later_itself, rose_read_waits, rose_write_waits, rose_read_faults, rose_write_faults}
use Rattle.h1_transfer.proofs.MovedLemmas.{moved_on}
use Rattle.h1_app.specs.declared.exchange.Stage.TheVariants as stage
use Rattle.h1_application.proofs.ReadLemmas.{budget_on, within_on}
use Rattle.h1_transcript.specs.Ends.{StopsLast}
use Rattle.h1_transcript.proofs.AloneLemmas.{join_none, join_on}
use Rattle.h1_transcript.proofs.GrowthLemmas.{extends_itself, extends_on, replies_grow}
use Rattle.h1_app.proofs.BodyTimeLemmas.{body_itself, body_on}
use Rattle.h1_app.proofs.ReplyLemmas.{moves_none}

pub moves_on : {L C : Type 0} (state : L → LinkState) (a b c : SessionView L C) → MovesWithin state a b
    → MovesWithin state b c → MovesWithin state a c
moves_on state a b c x y = record {
  read = x.read ++ y.read;
  wrote = x.wrote ++ y.wrote;
  spent = x.spent + y.spent;
  moved = moved_on _ _ _ _ _ _ _ _ _ x.moved y.moved;
  budget = budget_on a.budget b.budget c.budget x.spent y.spent x.budget y.budget;
  within = within_on a.budget b.budget x.spent y.spent x.budget x.within y.within;
  context = y.context ∙ x.context;
}

-- nothing moved, and the connection may have ended
pub turned_stays : {L C A J : Type 0} (state : L → LinkState) (same_plan : L → L → Type 0)
    (now : ℕ) (shutdown : Bool) (at : View L C A J) (end : Option End) (stop : Bool)
    → same_plan at.session.link at.session.link
    → still_calls at false ≤ still_calls (record at { end = end }) stop
    → Leaves (state at.session.link) (state at.session.link) at.last end
    → Turned state same_plan now shutdown at (record at { end = end }) stop
turned_stays state same_plan now shutdown at end stop plan more leaves = record {
  gone = record {
    served = refl;
    terms = refl;
    plan = plan;
    moves = moves_none state at.session at.session refl refl refl;
    accounted = λ before s. s;
    alone = λ before s. join_none before (state at.session.link) at.done;
    extends = extends_itself now shutdown (state at.session.link) (state at.session.link)
        (entries at);
    longer = omega arith;
    body = body_itself now at.session.body.since.read at.last;
  };
  reads_not_ready = omega arith;
  others = omega (arith, more);
  leaves = record { leaves = leaves; noted = λ met. met };
}

gone_on : {L C A J : Type 0} {state : L → LinkState} {same_plan : L → L → Type 0} {now : ℕ}
    {shutdown : Bool} (a b c : View L C A J)
    → (same_plan a.session.link b.session.link → same_plan b.session.link c.session.link
    → same_plan a.session.link c.session.link) → Gone state same_plan now shutdown a b
    → Gone state same_plan now shutdown b c → Gone state same_plan now shutdown a c
gone_on {state = state} {now = now} {shutdown = shutdown} a b c on x y = record {
  served = y.served ∙ x.served;
  terms = y.terms ∙ x.terms;
  plan = on x.plan y.plan;
  moves = moves_on state a.session b.session c.session x.moves y.moves;
  accounted = λ before s. y.accounted before (x.accounted before s);
  alone = λ before s. join_on before (state a.session.link) (state b.session.link) a.done b.done
      c.done s.later x.moves.moved.later (x.alone before s)
      (y.alone before (x.accounted before s));
  extends = extends_on now shutdown (state a.session.link) (state b.session.link)
      (state c.session.link) x.moves.moved.later y.moves.moved.later
      (entries a) (entries b) (entries c) x.extends y.extends;
  longer = omega (arith, x.longer, y.longer);
  body = body_on now a.session.body.since.read b.session.body.since.read c.session.body.since.read
      a.last b.last c.last x.body y.body;
}

-- steps that go on, and one more
pub turned_on : {L C A J : Type 0} {state : L → LinkState} {same_plan : L → L → Type 0} {now : ℕ}
    {shutdown : Bool} (a b c : View L C A J) {stop : Bool}
    → (same_plan a.session.link b.session.link → same_plan b.session.link c.session.link
    → same_plan a.session.link c.session.link)
    → b.end ≡ None → Turned state same_plan now shutdown a b false
    → Turned state same_plan now shutdown b c stop → Turned state same_plan now shutdown a c stop
turned_on {state = state} a b c on alive x y = record {
  gone = gone_on a b c on x.gone y.gone;
  reads_not_ready = omega (arith, x.reads_not_ready, y.reads_not_ready);
  others = omega (arith, x.others, y.others);
  leaves = leaves_further state a b c x.leaves alive y.leaves;
}

-- a budget stays one
pub some_left : {L C : Type 0} (state : L → LinkState) (old new : SessionView L C)
    → MovesWithin state old new → IsSome old.budget → IsSome new.budget
some_left state old new went some = rw went.budget (mapped old.budget some)
  where
    mapped : (budget : Option ℕ) → IsSome budget
        → IsSome (option_map (λ left. left - went.spent) budget)
    mapped None some = some
    mapped (Some left) some = refl

stops_back : (before now : LinkState) (done : List Entry) (e : Entry) (error : Error) (P Q : Type 0)
    → (P → Q) → StopsLast before now done e error P → StopsLast before now done e error Q
stops_back before now done e error P Q on (inl h) = inl h
stops_back before now done e error P Q on (inr h) = inr (h.0, h.1, on h.2)

failure_back : (before older old now : LinkState) → Later older old
    → (done : List Entry) (last : Option Entry) (error : Error) (k : ErrorType)
    → FailureCause before old now done last error k
    → FailureCause before older now done last error k
failure_back before older old now later done last error kind.ReadError (inl h) =
    inl (h.0, rose_read_faults 1 older old now now later h.1 (later_itself now), h.2)
failure_back before older old now later done None error kind.ReadError (inr h) = absurd h
failure_back before older old now later done (Some e) error kind.ReadError (inr h) =
    let rose = λ (met : Rose old.read_faults now.read_faults).
    rose_read_faults 1 older old now now later met (later_itself now) in
    inr (stops_back before now done e error _ _ rose h.0, h.1)
failure_back before older old now later done last error kind.ReadTimedout (inl h) =
    inl (rose_read_waits 1 older old now now later h.0 (later_itself now), h.1, h.2)
failure_back before older old now later done None error kind.ReadTimedout (inr h) = absurd h
failure_back before older old now later done (Some e) error kind.ReadTimedout (inr h) =
    let rose = λ (met : Rose old.read_waits now.read_waits).
    rose_read_waits 1 older old now now later met (later_itself now) in
    inr (stops_back before now done e error _ _ rose h.0, h.1)
failure_back before older old now later done last error kind.WriteTimedout h =
    (rose_write_waits 1 older old now now later h.0 (later_itself now), h.1)
failure_back before older old now later done last error kind.WriteError h =
    rose_write_faults 1 older old now now later h (later_itself now)
failure_back before older old now later done last error _ h = h

-- an end has its cause since an earlier state too
end_back : (before older old now : LinkState) → Later older old
    → (done : List Entry) (last : Option Entry) (reason : End)
    → EndCause before old now done last reason → EndCause before older now done last reason
end_back before older old now later done last (end.Failed error) h =
    (h.0, failure_back before older old now later done last error error.kind h.1)
end_back before older old now later done last end.Finished h =
    (h.0, finished_back h.1, h.2)
  where
    finished_back : (now.ended ≡ true) ⊎ Rose old.read_waits now.read_waits
        → (now.ended ≡ true) ⊎ Rose older.read_waits now.read_waits
    finished_back (inl ended) = inl ended
    finished_back (inr rose) = inr (rose_read_waits 1 older old now now later rose (later_itself now))
end_back before older old now later done last _ h = h

-- and so has one for which a filter may have refused
pub ends_back : (filters : Filters) (before older old now : LinkState) → Later older old
    → (done : List Entry) (last : Option Entry) (reason : End)
    → EndsBy filters before old now done last reason → EndsBy filters before older now done last reason
ends_back filters before older old now later done last reason (inl cause) =
    inl (end_back before older old now later done last reason cause)
ends_back filters before older old now later done last reason (inr refused) = inr refused

-- the job that was there waits
pended_on : {J : Type 0} (begins : J → Type 0) (pends : J → ℕ) (b c : Stage J) → JobPends pends b c
    → PendedOn begins pends b c
pended_on begins pends (stage.Answer before) (stage.Answer job) y = y
pended_on begins pends (stage.Answer before) _ y = absurd y
pended_on begins pends _ c y = absurd y

-- a job that began waits
pended_new : {J : Type 0} (begins : J → Type 0) (pends : J → ℕ) (b c : Stage J) → JobNew begins b
    → JobPends pends b c → PendedNew begins pends c
pended_new begins pends (stage.Answer before) (stage.Answer job) new y = (before, new, y)
pended_new begins pends (stage.Answer before) _ new y = absurd y
pended_new begins pends _ c new y = absurd y

-- where it began in the exchange that was last, a head was awaited
pended_head : {J : Type 0} (begins : J → Type 0) (pends : J → ℕ) (a b c : Stage J)
    → rank b < rank a → JobNew begins b → JobPends pends b c → PendedOn begins pends a c
pended_head begins pends stage.Head b c less new y = pended_new begins pends b c new y
pended_head begins pends _ (stage.Answer before) c less new y = absurd (omega (arith, less))
pended_head begins pends _ b c less new y = absurd y

-- no step was made, or the job is new, and the exchange that was last came nearer to its end
abbrev pub Stands : {L C A J : Type 0} → (J → Type 0) → View L C A J → View L C A J → Type 0
Stands begins from to =
    ((to.stage ≡ from.stage) × (length to.done ≡ length from.done))
    ⊎ (JobNew begins to.stage
    × (length to.done ≡ length from.done → rank to.stage < rank from.stage))

-- no step was made, or the work began in one, and the exchange that was last came nearer to its end
abbrev pub HasBegun : {L C A J : Type 0} → View L C A J → View L C A J → Type 0
HasBegun from to =
    (to ≡ from)
    ⊎ (IsUnwaited (work_of to)
    × (length to.done ≡ length from.done → rank to.stage < rank from.stage))

pended_by : {L C A J : Type 0} (begins : J → Type 0) (pends : J → ℕ) (a b c : View L C A J)
    → c.done ≡ b.done → length a.done ≤ length b.done → Stands begins a b
    → JobPends pends b.stage c.stage → PendedBy begins pends a.done c.done a.stage c.stage
pended_by begins pends a b c still longer (inl stood) y = record {
  longer = omega (arith, ap length still, longer);
  same = λ _. pended_on begins pends a.stage c.stage (rw stood.0 at y);
  later = λ less. absurd (omega (arith, ap length still, stood.1, less));
}
pended_by begins pends a b c still longer (inr stepped) y = record {
  longer = omega (arith, ap length still, longer);
  same = λ same. pended_head begins pends a.stage b.stage c.stage
      (stepped.1 (sym (ap length still) ∙ same)) stepped.0 y;
  later = λ _. pended_new begins pends b.stage c.stage stepped.0 y;
}

told_grows : (given more written further : Option (List ℕ)) (read wrote : List ℕ) (count : ℕ)
    → more ≡ append_known given read → further ≡ append_known written wrote
    → count ≤ length read + length wrote → ToldGrowth given more written further count
told_grows (Some given) more (Some written) further read wrote count e f enough =
    rw (e, f) (omega (arith, length-append given read, length-append written wrote))
told_grows (Some given) (Some more) None further read wrote count e f enough = tt
told_grows (Some given) None None further read wrote count e f enough = tt
told_grows None more written further read wrote count e f enough = tt

abbrev value : Option ℕ → ℕ
value None = 0
value (Some n) = n

-- what is left of a poll's budget is what was not spent
left_of : {L C : Type 0} (state : L → LinkState) (old new : SessionView L C) (left : ℕ)
    (w : MovesWithin state old new)
    → old.budget ≡ Some 64 → new.budget ≡ Some left → (left ≡ 64 - w.spent) × (w.spent ≤ 64)
left_of state old new left w start is =
    let whole : w.spent ≤ 64 = rw start at w.within in
    let rest : new.budget ≡ Some (64 - w.spent) = rw start at w.budget in
    (ap value (sym is ∙ rest), whole)

-- a spent budget is why a poll waits
budget_cause : {L C A J : Type 0} (begins : J → Type 0) (pends : J → ℕ) (state : L → LinkState)
    (before : LinkState) (from to : View L C A J)
    → MovesWithin state from.session to.session → from.session.budget ≡ Some 64
    → to.session.budget ≡ Some 0 → WaitCause begins pends before (state from.session.link)
    (state to.session.link) from to waiting.Budget
budget_cause begins pends state before from to w start is =
    let s = left_of state from.session to.session 0 w start is in
    let all : w.spent ≡ 64 = omega (arith, s.0, s.1) in
    (rw all at w.moved.rose, told_grows _ _ _ _ _ _ 64 w.moved.given w.moved.written (rw all at w.moved.enough))

rose_of : (P : Type 0) (budget : Option ℕ) (left : ℕ) → budget ≡ Some left → 0 < left
    → P ⊎ (budget ≡ Some 0) → P
rose_of P budget left is some (inl p) = p
rose_of P budget left is some (inr none) = absurd (omega (arith, ap value (sym is ∙ none)))

-- the steps of a poll lead from one view to another, in the same exchange or past it
pub record IsOnWay {L C A J : Type 0} (state : L → LinkState) (begins : J → Type 0)
    (same_plan : L → L → Type 0) (now : ℕ) (shutdown : Bool) (from to : View L C A J) : Type 0 where
  pub turned : Turned state same_plan now shutdown from to false
  pub alive : to.end ≡ None
  pub budget : IsSome to.session.budget
  -- what the connection does
  pub begun : HasBegun from to
  pub stands : Stands begins from to

pub way_itself : {L C A J : Type 0} (state : L → LinkState) (begins : J → Type 0)
    (same_plan : L → L → Type 0) (now : ℕ) (shutdown : Bool) (at : View L C A J)
    → same_plan at.session.link at.session.link → at.end ≡ None → IsSome at.session.budget
    → IsOnWay state begins same_plan now shutdown at at
way_itself state begins same_plan now shutdown at plan alive some = record {
  turned = turned_stays state same_plan now shutdown at at.end false plan (omega arith)
      (rw alive (leaves_itself (state at.session.link) at.last));
  alive = alive;
  budget = some;
  begun = inl refl;
  stands = inl (refl, refl);
}

-- a step that is done leads on
pub way_on : {L C A J : Type 0} {state : L → LinkState} {begins : J → Type 0}
    {same_plan : L → L → Type 0} {now : ℕ} {shutdown : Bool} (a b c : View L C A J)
    → (same_plan a.session.link b.session.link → same_plan b.session.link c.session.link
    → same_plan a.session.link c.session.link) → IsOnWay state begins same_plan now shutdown a b
    → Turned state same_plan now shutdown b c false → c.end ≡ None
    → IsUnwaited (work_of c)
    → (length c.done ≡ length b.done → rank c.stage < rank b.stage) → JobNew begins c.stage
    → IsOnWay state begins same_plan now shutdown a c
way_on {L} {C} {A} {J} {state} {begins} {same_plan} {now} a b c on x y alive unwaited less new = record {
  turned = turned_on a b c on x.alive x.turned y;
  alive = alive;
  budget = some_left state b.session c.session y.gone.moves x.budget;
  begun = inr (unwaited, lower);
  stands = inr (new, lower);
} where
  falls : Stands begins a b → length b.done ≡ length a.done → rank c.stage < rank b.stage
      → rank c.stage < rank a.stage
  falls (inl stood) same less = rw stood.0 at less
  falls (inr stepped) same less = let first = stepped.1 same in omega (arith, first, less)

  lower : length c.done ≡ length a.done → rank c.stage < rank a.stage
  lower same = falls x.stands (omega (
    arith,
    same,
    x.turned.gone.longer,
    y.gone.longer,
  )) (less (omega (arith, same, x.turned.gone.longer, y.gone.longer)))

step_waits : {L C A J : Type 0} (pends : J → ℕ) {state : L → LinkState} {begins : J → Type 0}
    {same_plan : L → L → Type 0} {now : ℕ} {shutdown : Bool} (before : LinkState)
    (a b c : View L C A J) (left : ℕ) → IsOnWay state begins same_plan now shutdown a b
    → Gone state same_plan now shutdown b c → c.session.budget ≡ Some left → 0 < left
    → Accounted state before c.session c.done c.last → c.done ≡ b.done
    → (what : Waiting) → WaitsOn state pends b.session c.session c.last b.stage c.stage what
    → WaitCause begins pends before (state a.session.link) (state c.session.link) a c what
step_waits pends {state = state} before a b c left x y is some s still waiting.Read w = (
  rose_read_waits 1 (state a.session.link) (state b.session.link) (state c.session.link)
      (state c.session.link) x.turned.gone.moves.moved.later (rose_of _ _ left is some w.0)
      (later_itself (state c.session.link)),
  w.1 before c.done s,
)
step_waits pends {state = state} before a b c left x y is some s still waiting.Write w = (
  rose_write_waits 1 (state a.session.link) (state b.session.link) (state c.session.link)
      (state c.session.link) x.turned.gone.moves.moved.later (rose_of _ _ left is some w.0)
      (later_itself (state c.session.link)),
  w.1,
)
step_waits pends {state = state} {begins = begins} {now = now} {shutdown = shutdown} before a b c
    left x y is some s still waiting.App w =
    let more = replies_grow now shutdown (state b.session.link) (state c.session.link)
    (entries b) (entries c) y.extends in (
      omega (arith, w.0, x.turned.reads_not_ready, more),
      pended_by begins pends a b c still x.turned.gone.longer x.stands w.1,
    )
step_waits pends before a b c left x y is some s still waiting.Budget w = absurd w

-- a poll waits for what its last step waits for, or it has spent its budget
pub poll_waits : {L C A J : Type 0} (pends : J → ℕ) {state : L → LinkState} {begins : J → Type 0}
    {same_plan : L → L → Type 0} {now : ℕ} {shutdown : Bool} (before : LinkState)
    (a b c : View L C A J) → IsOnWay state begins same_plan now shutdown a b
    → Gone state same_plan now shutdown b c → a.session.budget ≡ Some 64
    → Accounted state before a.session a.done a.last → c.done ≡ b.done
    → (what : Waiting) → WaitsOn state pends b.session c.session c.last b.stage c.stage what
    → WaitCause begins pends before (state a.session.link) (state c.session.link) a c
    (waiting_for c.session.budget what)
poll_waits {L} {C} {A} {J} pends {state} {begins} before a b c x y start s still what w =
    on c.session.budget refl (some_left state b.session c.session y.moves x.budget)
  where
    Why : Waiting → Type 0
    Why = WaitCause begins pends before (state a.session.link) (state c.session.link) a c

    by_left : (left : ℕ) → c.session.budget ≡ Some left → (test : Bool) → (left == 0) ≡ test
        → Why (if test then waiting.Budget else what)
    by_left left is true e =
        let none : left ≡ 0 = grind (arith, nat_tests, e) in
        budget_cause begins pends state before a c
        (moves_on state a.session b.session c.session x.turned.gone.moves y.moves) start
        (is ∙ ap Some none)
    by_left left is false e =
        let some : 0 < left = grind (arith, nat_tests, e) in
        step_waits pends before a b c left x y is some
        (y.accounted before (x.turned.gone.accounted before s)) still what w

    on : (budget : Option ℕ) → c.session.budget ≡ budget → IsSome budget
        → Why (waiting_for budget what)
    on None is some = absurd (false≢true some)
    on (Some left) is some = by_left left is (left == 0) refl

-- a cause doesn't see the budget of the view before it
pub cause_same : {L C A J : Type 0} (filters : Filters) (state : L → LinkState) (begins : J → Type 0)
    (pends : J → ℕ) (before : LinkState) (from to : View L C A J) (budget : Option ℕ) (result : Progress)
    → Cause filters state begins pends before
    (record from { session = record from.session { budget = budget } }) to result
    → Cause filters state begins pends before from to result
cause_same filters state begins pends before from to budget (progress.Ready reason) h = h
cause_same filters state begins pends before from to budget (progress.Pending waiting.Read) h = h
cause_same filters state begins pends before from to budget (progress.Pending waiting.Write) h = h
cause_same filters state begins pends before from to budget (progress.Pending waiting.App) h = h
cause_same filters state begins pends before from to budget (progress.Pending waiting.Budget) h = h
