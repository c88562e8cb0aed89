-- How long a drain of a request's body waits.
use Rattle.std.proofs.Common.{◌≡◌, ℕ, nat_lt, ◌||◌, ◌⊎◌, inl, inr, [], Bool, true, false, Option, Some, None, IsSome, option_map, Result, Ok, Err, refl, sym, ◌∙◌, ap, subst}
use Rattle.h1_app.specs.Words.{Poll, Ready, Pending, Error, LinkState, ReusesBy, SessionView, Rose, Entry, allowance, keeps_alive, payload_in}
use Rattle.h1_error.specs.declared.progress.End.TheVariants as end
use Rattle.h1_server.specs.Payload.{DrainsBody}
use Rattle.h1_server.specs.Reuse.{ReuseAnswer}
use Rattle.h1_server.specs.Times.{drain_limits}
use Rattle.h1_transfer.specs.Deadline as deadlines
use Rattle.h1_transfer.specs.Deadline.{IsTimed, Noted, is_over, is_timeout, left_of, start_of}
use Rattle.h1_transfer.specs.ReadWaits.{DrainWaited, is_drain_over, noted_rest, rest_since, rest_wait, total_wait}
use Rattle.h1_transfer.specs.declared.since.DrainLimits.{DrainLimits}
use Rattle.h1_transfer.specs.declared.since.Since.{Since}
use Rattle.h1_app.proofs.DrainLemmas.{drained_shape, taken_from}
use Rattle.h1_app.proofs.TimelyLemmas.{call_moved, told_late}
use Rattle.h1_app.proofs.Words.{ReusesAs, lent}
use Rattle.h1_app.specs.Timely.{EndsInTime, HasMoved, WaitsInTime, wait_at}
use Rattle.h1_app.specs.Work.{Work, drains, rest_waits}
use Rattle.h1_application.proofs.ReadLemmas.{budget_none}

-- what was noted of the rest is noted of it still
rest_again : (since : Since) → rest_since (rest_waits since) ≡ rest_since since
rest_again since = by since.drain since.read where
  by : (drain read : Option ℕ)
      → rest_since (rest_waits (record { read = read; drain = drain }))
      ≡ rest_since (record { read = read; drain = drain })
  by None read = refl
  by (Some first) read = refl

rest_noted : (since : Since) (start : ℕ) → since.drain ≡ Some start → rest_since since ≡ since.read
rest_noted since start is = rw is refl

-- and so is what is left of it
rest_left : (limits : DrainLimits) (moved : Bool) (since : Since)
    → rest_since (record { read = left_of (rest_wait limits moved since); drain = since.drain })
    ≡ left_of (rest_wait limits moved (rest_waits since))
rest_left limits moved since = by moved since.drain since.read where
  by : (moved : Bool) (drain read : Option ℕ)
      → rest_since (record {
        read = left_of (rest_wait limits moved (record { read = read; drain = drain }));
        drain = drain;
      })
      ≡ left_of (rest_wait limits moved (rest_waits (record { read = read; drain = drain })))
  by true None read = refl
  by false None read = refl
  by true (Some first) read = refl
  by false (Some first) read = refl

module _ (link_waited : Type 0) (limits : DrainLimits) (moved : Bool) (old new : Since) where
  -- a wait that a call noted, by what is noted of the rest
  rest_waited : (late : Bool) → DrainWaited link_waited limits moved old new late
      → DrainWaited link_waited limits moved (rest_waits old) (rest_waits new) late
  rest_waited late w =
      let same = ap (λ since. wait_at limits.moment limits.read moved since) (rest_again old) in
      record {
        link = w.link;
        read = rest_noted new _ w.drain ∙ w.read ∙ ap (λ wait. Some (start_of wait)) (sym same);
        drain = w.drain;
        judged = ap (λ wait. is_over wait || is_over (total_wait limits old)) same ∙ w.judged;
      }

  -- and what a call left that stopped
  rest_stopped : new ≡ record { read = left_of (rest_wait limits moved old); drain = old.drain }
      → rest_waits new
      ≡ record { read = left_of (rest_wait limits moved (rest_waits old)); drain = old.drain }
  rest_stopped is =
      ap rest_waits is ∙ ap (λ read. record old { read = read }) (rest_left limits moved old)

abbrev drain_work : {L C : Type 0} → Entry → SessionView L C → Work
drain_work e session = drains e.left.times (rest_waits session.body.since)

-- how long a step that drains waits, or waited where it ends the connection
abbrev pub DrainTimed : {L C : Type 0} → (L → LinkState) → ℕ → Entry → Entry → SessionView L C
    → SessionView L C → Poll (Result Bool Error) → Type 0
DrainTimed state now e f old new Pending =
    WaitsInTime now (state old.link) (state new.link) (drain_work e old) (drain_work f new)
    (new.budget ≡ Some 0)
DrainTimed state now e f old new (Ready (Err error)) =
    EndsInTime now (state old.link) (state new.link) (drain_work e old) (drain_work f new) (Some f)
    (end.Failed error)
DrainTimed state now e f old new (Ready (Ok reusable)) = Unit {0}

module _ {L C : Type 0} (state : L → LinkState) (now : ℕ) (e f : Entry) (old new : SessionView L C)
    (left : ℕ)
    (some : IsSome old.budget) (budget : new.budget ≡ option_map (λ _. left) old.budget)
    (times : f.left.times ≡ old.settings.times)
    (counted : HasMoved (nat_lt left (allowance old.budget)) (state old.link) (state new.link)) where
  abbrev waited : Type 0
  waited = Rose (state old.link).read_waits (state new.link).read_waits

  abbrev limits : DrainLimits
  limits = drain_limits old.settings.times now

  abbrev told : Noted
  told = noted_rest waited limits (nat_lt left (allowance old.budget)) old.body.since
      new.body.since

  drain_waits : told.waited false ⊎ ((left ≡ 0) × told.stopped)
      → DrainTimed state now e f old new Pending
  drain_waits timed = record {
    moved = nat_lt left (allowance old.budget);
    counted = counted;
    waits = rw times (by timed);
  } where
    by : told.waited false ⊎ ((left ≡ 0) × told.stopped)
        → DrainWaited waited limits (nat_lt left (allowance old.budget))
        (rest_waits old.body.since) (rest_waits new.body.since) false
        ⊎ ((new.budget ≡ Some 0) × (rest_waits new.body.since ≡ record {
          read = left_of (rest_wait limits (nat_lt left (allowance old.budget))
              (rest_waits old.body.since));
          drain = old.body.since.drain;
        }))
    by (inl waits) = inl (rest_waited waited limits _ old.body.since new.body.since false waits)
    by (inr spent) = inr (
      budget_none old.budget new.budget left some budget spent.0,
      rest_stopped waited limits _ old.body.since new.body.since spent.1,
    )

  drain_fails : (error : Error) → deadlines.FailsInTime told (is_timeout error.kind)
      → DrainTimed state now e f old new (Ready (Err error))
  drain_fails error timed = record {
    moved = nat_lt left (allowance old.budget);
    counted = counted;
    ends = rw times (told_late told
        (is_drain_over limits (nat_lt left (allowance old.budget)) (rest_waits old.body.since)
        ≡ true)
        (λ late. let w = rest_waited waited limits _ old.body.since new.body.since true late in
        w.judged) error.kind timed);
  }

  -- the call that drains, by what the call for the link's reuse made of its answer
  drain_told : (behind : SessionView L C) (outcome : Poll (Result (Unit {0}) Error))
      (answer : Poll (Result Bool Error)) → IsTimed told left outcome
      → ReuseAnswer behind outcome answer → DrainTimed state now e f old new answer
  drain_told behind (Ready (Ok done)) answer timed a = rw a.1 tt
  drain_told behind (Ready (Err error)) answer timed a = rw a.1 (drain_fails error timed)
  drain_told behind Pending answer timed a = rw a.1 (drain_waits timed)

-- the call for the link's reuse, whatever it answered
pub drain_timed : {L C : Type 0} (state : L → LinkState) (now : ℕ) (old new : SessionView L C)
    (e f : Entry) (answer : Poll (Result Bool Error)) → IsSome old.budget
    → f.left.times ≡ old.settings.times
    → ReusesAs state now old new e f answer → DrainTimed state now e f old new answer
drain_timed {L} {C} state now old new e f answer some times h = by_alive (keeps_alive old) h.reuses where
  by_alive : (alive : Bool) → ReusesBy state now (lent old (payload_in e)) h.behind answer alive
      → DrainTimed state now e f old new answer
  by_alive false r = rw r.0 tt
  by_alive true r =
      let d : DrainsBody state now (lent old (payload_in e)) r.0 r.1 = r.2 in
      let kept : DrainTimed state now e f old (taken_from r.0 h.behind.reusable) answer =
      drain_told state now e f old (taken_from r.0 h.behind.reusable) d.left some d.budget times
      (call_moved (state old.link) (state r.0.link) d.reads.received.piece [] (allowance old.budget)
      d.left d.reads.received.moved) h.behind r.1 answer d.timed r.4 in
      subst (λ (s : SessionView L C). DrainTimed state now e f old s answer)
      (sym (drained_shape r.0 h.behind new r.3 h.session)) kept
