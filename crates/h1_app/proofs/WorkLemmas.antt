-- How long a poll waits is how long its last step does.
use Rattle.std.proofs.Common.{◌≡◌, ℕ, ◌<◌, ◌≤◌, ◌==◌, nat_lt, ◌||◌, inl, inr, length, Bool, true, false, Option, Some, None, refl, sym, ◌∙◌, ap, subst, eq-eqb, arith}
use Rattle.std.specs.Prelude.{if◌then◌else◌}
use Rattle.std.proofs.lemmas.Bool.Decides.{nat_tests}
use Rattle.h1_app.specs.Words.{End, Error, ErrorType, Later, LinkState, Progress, Rose, SessionView, Stage, Entry, Waiting}
use Rattle.h1_error.specs.declared.error.ErrorType.TheVariants as kind
use Rattle.h1_error.specs.declared.progress.End.TheVariants as end
use Rattle.h1_error.specs.declared.progress.Progress.TheVariants as progress
use Rattle.h1_error.specs.declared.progress.Waiting.TheVariants as waiting
use Rattle.h1_link.proofs.Laters.{later_itself, rose_read_waits, rose_write_waits}
use Rattle.h1_server.specs.Times.{drain_limits}
use Rattle.h1_transfer.specs.Deadline.{Waited, is_late, is_over, left_of, start_of}
use Rattle.h1_transfer.specs.ReadWaits.{DrainWaited, is_drain_over, no_wait, rest_since, rest_wait, total_wait}
use Rattle.h1_transfer.specs.declared.since.DrainLimits.{DrainLimits}
use Rattle.h1_transfer.specs.declared.since.Since.{Since}
use Rattle.h1_app.proofs.GoneLemmas.{HasBegun, moves_on}
use Rattle.h1_app.proofs.TimelyLemmas.{step_moved}
use Rattle.h1_app.proofs.Words.{MovesWithin, View, rank, waiting_for}
use Rattle.h1_app.specs.Timely.{EndsAsTimed, EndsInTime, FailsInTime, IsLate, IsLateHead, IsTimely, TurnsInTime, WaitsInTime, head_milliseconds, noted_of, wait_at, work_before}
use Rattle.h1_app.specs.View.{work_of}
use Rattle.h1_app.specs.Work.{HasTimesLeft, IsUnwaited, Work, drain_since, drains, head_since, piece_since, reads_head, untimed, work_at, work_on, writes_piece}
use Rattle.h1_app.specs.declared.exchange.Stage.TheVariants as stage
use Rattle.h1_app.specs.declared.exchange.Outcome.TheVariants as outcome

-- a poll's budget is no part of it
pub timely_same : {L C A J : Type 0} (state : L → LinkState) (now : ℕ) (from to : View L C A J)
    (budget : Option ℕ) (result : Progress)
    → IsTimely state now (record from { session = record from.session { budget = budget } }) to
    result
    → IsTimely state now from to result
timely_same state now from to budget (progress.Pending what) h = h
timely_same state now from to budget (progress.Ready reason) h = h

-- what a connection does has the times that were left
pub times_left : {L C J : Type 0} (at : Stage J) (last : Option Entry) (session : SessionView L C)
    → HasTimesLeft last (work_at at last session)
times_left stage.TakeBody None session = tt
times_left stage.TakeBody (Some e) session = (session.reply.handed, refl)
times_left stage.Body None session = tt
times_left stage.Body (Some e) session = (session.reply.handed, refl)
times_left stage.Drain None session = tt
times_left stage.Drain (Some e) session = refl
times_left _ last session = tt

-- work that isn't the one before, and so hasn't waited before
abbrev IsNewTo : Work → Work → Type 0
IsNewTo before (reads_head since) = head_since before ≡ None
IsNewTo before (drains times since) = drain_since before ≡ no_wait
IsNewTo before (writes_piece limit since) = piece_since before ≡ None
IsNewTo before untimed = Unit {0}

-- none is that which hasn't waited
unwaited_head : (before : Work) → IsUnwaited before → head_since before ≡ None
unwaited_head (reads_head since) none = none
unwaited_head _ none = refl

unwaited_drain : (before : Work) → IsUnwaited before → drain_since before ≡ no_wait
unwaited_drain (drains times since) none = none
unwaited_drain _ none = refl

unwaited_piece : (before : Work) → IsUnwaited before → piece_since before ≡ None
unwaited_piece (writes_piece limit since) none = none
unwaited_piece _ none = refl

new_unwaited : (before work : Work) → IsUnwaited before → IsNewTo before work
new_unwaited before (reads_head since) none = unwaited_head before none
new_unwaited before (drains times since) none = unwaited_drain before none
new_unwaited before (writes_piece limit since) none = unwaited_piece before none
new_unwaited before untimed none = tt

-- nor that of a stage from which the exchange came nearer to its end
head_new : {L C J : Type 0} (from : Stage J) (last : Option Entry) (session : SessionView L C)
    → 8 < rank from → head_since (work_at from last session) ≡ None
head_new stage.Head last session less = absurd (omega (arith, less))
head_new _ None session less = refl
head_new _ (Some e) session less = refl

drain_new : {L C J : Type 0} (from : Stage J) (last : Option Entry) (session : SessionView L C)
    → 1 < rank from → drain_since (work_at from last session) ≡ no_wait
drain_new stage.Drain last session less = absurd (omega (arith, less))
drain_new _ None session less = refl
drain_new _ (Some e) session less = refl

piece_new : {L C J : Type 0} (from : Stage J) (last : Option Entry) (session : SessionView L C)
    → 3 < rank from → piece_since (work_at from last session) ≡ None
piece_new stage.Body last session less = absurd (omega (arith, less))
piece_new _ None session less = refl
piece_new _ (Some e) session less = refl

new_later : {L C J : Type 0} (from to : Stage J) (first last : Option Entry)
    (old new : SessionView L C) → rank to < rank from
    → IsNewTo (work_at from first old) (work_at to last new)
new_later from stage.Head first last old new less = head_new from first old less
new_later from stage.TakeBody first (Some e) old new less =
    piece_new from first old (omega (arith, less))
new_later from stage.Body first (Some e) old new less = piece_new from first old less
new_later from stage.Drain first (Some e) old new less = drain_new from first old less
new_later from _ first None old new less = tt
new_later from _ first (Some e) old new less = tt

-- nor that of an exchange before
new_on : (before now : ℕ) (was work : Work) → (now ≡ before → IsNewTo was work)
    → IsNewTo (work_on before now was) work
new_on before now was work same = by (before == now) refl where
  by : (test : Bool) → (before == now) ≡ test → IsNewTo (if test then was else untimed) work
  by true is = let on : now ≡ before = grind (arith, nat_tests, is) in same on
  by false is = new_unwaited untimed work tt

-- where no exchange was done since, the work may go on
work_same : (before now : ℕ) (was : Work) → now ≡ before → work_on before now was ≡ was
work_same before now was same =
    ap (λ test. if test then was else untimed) (eq-eqb before now (sym same))

-- what hasn't waited before waits since now, whether bytes moved or not
module _ (now : ℕ) (limit : Option ℕ) where
  start_new : (moved : Bool) (since : Option ℕ) → since ≡ None
      → start_of (wait_at now limit moved since) ≡ now
  start_new true since none = refl
  start_new false since none = rw none refl

  left_new : (moved : Bool) (since : Option ℕ) → since ≡ None
      → left_of (wait_at now limit moved since) ≡ None
  left_new true since none = refl
  left_new false since none = none

  module _ (m1 m2 : Bool) (s1 s2 : Option ℕ) (n1 : s1 ≡ None) (n2 : s2 ≡ None) where
    start_same : start_of (wait_at now limit m1 s1) ≡ start_of (wait_at now limit m2 s2)
    start_same = start_new m1 s1 n1 ∙ sym (start_new m2 s2 n2)

    left_same : left_of (wait_at now limit m1 s1) ≡ left_of (wait_at now limit m2 s2)
    left_same = left_new m1 s1 n1 ∙ sym (left_new m2 s2 n2)

    over_same : is_over (wait_at now limit m1 s1) ≡ is_over (wait_at now limit m2 s2)
    over_same = ap (λ start. is_late (record { moment = now; limit = limit }) start) start_same

    waited_same : (a b : Type 0) (since : Option ℕ) → (a → b)
        → Waited a (wait_at now limit m1 s1) since false
        → Waited b (wait_at now limit m2 s2) since false
    waited_same a b since on w = record {
      link = on w.link;
      noted = w.noted ∙ ap Some start_same;
      judged = sym over_same ∙ w.judged;
    }

-- the same of a drain, which waits for all of the rest too
module _ (limits : DrainLimits) (m1 m2 : Bool) (s1 s2 : Since) (n1 : s1 ≡ no_wait)
    (n2 : s2 ≡ no_wait) where
  rest_none : (since : Since) → since ≡ no_wait → rest_since since ≡ None
  rest_none since none = ap (λ since. rest_since since) none

  drain_none : (since : Since) → since ≡ no_wait → since.drain ≡ None
  drain_none since none = ap (λ (since : Since). since.drain) none

  drain_over_same : is_drain_over limits m1 s1 ≡ is_drain_over limits m2 s2
  drain_over_same = ap (λ over. over || is_over (total_wait limits s1))
      (over_same limits.moment limits.read m1 m2 (rest_since s1) (rest_since s2) (rest_none s1 n1)
      (rest_none s2 n2))
      ∙ ap (λ over. is_over (rest_wait limits m2 s2) || over)
      (over_same limits.moment limits.total false false s1.drain s2.drain (drain_none s1 n1)
      (drain_none s2 n2))

  drain_waited_same : (a b : Type 0) (since : Since) → (a → b)
      → DrainWaited a limits m1 s1 since false → DrainWaited b limits m2 s2 since false
  drain_waited_same a b since on w = record {
    link = on w.link;
    read = w.read ∙ ap Some (start_same limits.moment limits.read m1 m2 (rest_since s1)
        (rest_since s2) (rest_none s1 n1) (rest_none s2 n2));
    drain = w.drain ∙ ap Some (start_same limits.moment limits.total false false s1.drain
        s2.drain (drain_none s1 n1) (drain_none s2 n2));
    judged = sym drain_over_same ∙ w.judged;
  }

  drain_left_same : record s1 { read = left_of (rest_wait limits m1 s1) }
      ≡ record s2 { read = left_of (rest_wait limits m2 s2) }
  drain_left_same = ap (λ read. record s1 { read = read })
      (left_same limits.moment limits.read m1 m2 (rest_since s1) (rest_since s2) (rest_none s1 n1)
      (rest_none s2 n2))
      ∙ ap (λ (since : Since). record since { read = left_of (rest_wait limits m2 s2) })
      (n1 ∙ sym n2)

-- what is noted of a work that began in a poll is what is noted of it in the step
module _ (now : ℕ) (m1 m2 : Bool) (from old new : LinkState) (later : Later from old)
    (b1 b2 : Work) where
  waited_new : (work : Work) → IsNewTo b1 work → IsNewTo b2 work
      → (noted_of now m1 old new b1 work).waited false
      → (noted_of now m2 from new b2 work).waited false
  waited_new (reads_head since) n1 n2 w =
      waited_same now (Some head_milliseconds) m1 m2 (head_since b1) (head_since b2) n1 n2
      (Rose old.read_waits new.read_waits) (Rose from.read_waits new.read_waits) since
      (λ rose. rose_read_waits 1 from old new new later rose (later_itself new)) w
  waited_new (drains times since) n1 n2 w =
      drain_waited_same (drain_limits times now) m1 m2 (drain_since b1) (drain_since b2) n1 n2
      (Rose old.read_waits new.read_waits) (Rose from.read_waits new.read_waits) since
      (λ rose. rose_read_waits 1 from old new new later rose (later_itself new)) w
  waited_new (writes_piece limit since) n1 n2 w =
      waited_same now limit m1 m2 (piece_since b1) (piece_since b2) n1 n2
      (Rose old.write_waits new.write_waits) (Rose from.write_waits new.write_waits) since
      (λ rose. rose_write_waits 1 from old new new later rose (later_itself new)) w
  waited_new untimed n1 n2 w = tt

  stopped_new : (work : Work) → IsNewTo b1 work → IsNewTo b2 work
      → (noted_of now m1 old new b1 work).stopped → (noted_of now m2 from new b2 work).stopped
  stopped_new (reads_head since) n1 n2 left =
      left ∙ left_same now (Some head_milliseconds) m1 m2 (head_since b1) (head_since b2) n1 n2
  stopped_new (drains times since) n1 n2 left =
      left ∙ drain_left_same (drain_limits times now) m1 m2 (drain_since b1) (drain_since b2) n1 n2
  stopped_new (writes_piece limit since) n1 n2 left =
      left ∙ left_same now limit m1 m2 (piece_since b1) (piece_since b2) n1 n2
  stopped_new untimed n1 n2 left = tt

  late_head_new : (work : Work) → IsNewTo b1 work → IsNewTo b2 work → IsLateHead now m1 b1 work
      → IsLateHead now m2 b2 work
  late_head_new (reads_head since) n1 n2 late =
      sym (over_same now (Some head_milliseconds) m1 m2 (head_since b1) (head_since b2) n1 n2) ∙ late
  late_head_new _ n1 n2 late = absurd late

  late_new : (work : Work) (last : Option Entry) (error : Error) → IsNewTo b1 work → IsNewTo b2 work
      → IsLate now m1 b1 work last error → IsLate now m2 b2 work last error
  late_new (reads_head since) None error n1 n2 late =
      sym (over_same now (Some head_milliseconds) m1 m2 (head_since b1) (head_since b2) n1 n2) ∙ late
  late_new (drains times since) (Some e) error n1 n2 late =
      sym (drain_over_same (drain_limits times now) m1 m2 (drain_since b1) (drain_since b2) n1 n2)
      ∙ late
  late_new (writes_piece limit since) (Some e) error n1 n2 late =
      sym (over_same now limit m1 m2 (piece_since b1) (piece_since b2) n1 n2) ∙ late
  late_new untimed (Some e) error n1 n2 late = late
  late_new _ _ error n1 n2 late = absurd late

  ends_new : (work : Work) (link : LinkState) (last : Option Entry) (reason : End)
      → IsNewTo b1 work → IsNewTo b2 work → EndsAsTimed now m1 b1 work link last reason
      → EndsAsTimed now m2 b2 work link last reason
  ends_new work link last end.Finished n1 n2 (inl ended) = inl ended
  ends_new work link last end.Finished n1 n2 (inr late) = inr (late_head_new work n1 n2 late)
  ends_new work link last (end.Failed error) n1 n2 h = by error.kind h where
    by : (k : ErrorType) → FailsInTime (IsLate now m1 b1 work last error) k
        → FailsInTime (IsLate now m2 b2 work last error) k
    by kind.ReadTimedout late = late_new work last error n1 n2 late
    by kind.WriteTimedout late = late_new work last error n1 n2 late
    by _ h = tt
  ends_new work link last _ n1 n2 h = tt

-- where the budget is spent, that is what is waited for
spent_for : (budget : Option ℕ) (what : Waiting) → budget ≡ Some 0
    → waiting_for budget what ≡ waiting.Budget
spent_for budget what spent = rw spent refl

module _ {L C A J : Type 0} (state : L → LinkState) (now : ℕ) (from at to : View L C A J)
    (begun : HasBegun from at) (first : MovesWithin state from.session at.session)
    (last : MovesWithin state at.session to.session) (done : to.done ≡ at.done) where
  abbrev all : MovesWithin state from.session to.session
  all = moves_on state from.session at.session to.session first last

  -- a poll of one step goes on with the work before it
  same_before : at ≡ from → work_of at ≡ work_before from to
  same_before same =
      ap (λ (v : View L C A J). work_of v) same
      ∙ sym (work_same (length from.done) (length to.done) (work_of from)
      (ap (λ es. length es) done ∙ ap (λ (v : View L C A J). length v.done) same))

  -- the work of any other began in it
  new_before : rank to.stage ≤ rank at.stage
      → (length at.done ≡ length from.done → rank at.stage < rank from.stage)
      → IsNewTo (work_before from to) (work_of to)
  new_before on less = new_on (length from.done) (length to.done) (work_of from) (work_of to)
      (λ same. new_later from.stage to.stage from.last to.last from.session to.session
      (let nearer = less (sym (ap (λ es. length es) done) ∙ same) in omega (arith, nearer, on)))

  pub poll_waits_in_time : (what : Waiting) → TurnsInTime state now at to (outcome.Waits what)
      → IsTimely state now from to (progress.Pending (waiting_for to.session.budget what))
  poll_waits_in_time what t = by begun t.1 where
    Spent : Type 0
    Spent = waiting_for to.session.budget what ≡ waiting.Budget

    by : HasBegun from at
        → WaitsInTime now (state at.session.link) (state to.session.link) (work_of at) (work_of to)
        (to.session.budget ≡ Some 0)
        → WaitsInTime now (state from.session.link) (state to.session.link) (work_before from to)
        (work_of to) Spent
    by (inl same) w =
        subst (λ (was : Work). WaitsInTime now (state from.session.link) (state to.session.link)
        was (work_of to) Spent) (same_before same)
        (subst (λ (v : View L C A J). WaitsInTime now (state v.session.link)
        (state to.session.link) (work_of at) (work_of to) Spent) same (record {
          moved = w.moved;
          counted = w.counted;
          waits = elim w.waits [
            | inl waits ↦ inl waits
            | inr stops ↦ inr (spent_for to.session.budget what stops.0, stops.1)
          ];
        }))
    by (inr new) w =
        let moved = nat_lt 0 all.spent in
        let later = first.moved.later in
        let n1 = new_unwaited (work_of at) (work_of to) new.0 in
        let n2 = new_before t.0 new.1 in
        record {
          moved = moved;
          counted = step_moved state from.session to.session all;
          waits = elim w.waits [
            | inl waits ↦ inl (waited_new now w.moved moved (state from.session.link)
                (state at.session.link) (state to.session.link) later (work_of at)
                (work_before from to) (work_of to) n1 n2 waits)
            | inr stops ↦ inr (
              spent_for to.session.budget what stops.0,
              stopped_new now w.moved moved (state from.session.link) (state at.session.link)
                  (state to.session.link) later (work_of at) (work_before from to) (work_of to) n1
                  n2 stops.1,
            )
          ];
        }

  pub poll_ends_in_time : (reason : End) → TurnsInTime state now at to (outcome.Ends reason)
      → IsTimely state now from to (progress.Ready reason)
  poll_ends_in_time reason t = by begun t.1 where
    by : HasBegun from at
        → EndsInTime now (state at.session.link) (state to.session.link) (work_of at) (work_of to)
        to.last reason
        → EndsInTime now (state from.session.link) (state to.session.link) (work_before from to)
        (work_of to) to.last reason
    by (inl same) w =
        subst (λ (was : Work). EndsInTime now (state from.session.link) (state to.session.link)
        was (work_of to) to.last reason) (same_before same)
        (subst (λ (v : View L C A J). EndsInTime now (state v.session.link)
        (state to.session.link) (work_of at) (work_of to) to.last reason) same w)
    by (inr new) w = record {
      moved = nat_lt 0 all.spent;
      counted = step_moved state from.session to.session all;
      ends = ends_new now w.moved (nat_lt 0 all.spent) (state from.session.link)
          (state at.session.link) (state to.session.link) first.moved.later (work_of at)
          (work_before from to) (work_of to) (state to.session.link) to.last reason
          (new_unwaited (work_of at) (work_of to) new.0) (new_before t.0 new.1) w.ends;
    }
