-- The step that drains a request's body, whole.
use Rattle.std.proofs.Common.{◌≡◌, ℕ, [], ◌∷◌, Bool, true, false, inl, IfSome, Some, Result, Ok, Err, sym, ◌∙◌, ap, subst, ◌+◌, ◌≤◌, arith, ◌-◌, ◌<◌, Option, None, option_map, refl}
use Rattle.h1_app.specs.Words.{Rules, Poll, Ready, Pending, Error, FaultsBy, LinkState, keeps_alive, SessionView, Settings, Entry, Exchange, TranscriptView, Stage, Outcome, IsAllowed, replies, payload_in}
use Rattle.h1_application.specs.Application.{Runs}
use Rattle.h1_app.proofs.Words.{ReusesAs, IsDraining, JobFrom, Leaves, MovesWithin, StepReady, Stepped, OutcomeCause, FewReadsNotReady, outcome_end, ahead, CalledForReuse, ShutUnless, StandsDrained, Continues, OthersFew}
use Rattle.h1_app.proofs.DrainEnds.{at_drain, drain_moves, drain_accounted, drain_allowed, drain_kept, drain_grows, drain_waits, drain_fails, drain_overread, drain_more, drain_shut, draining_on, drain_over}
use Rattle.h1_app.proofs.DrainLemmas.{Answered, Reused, answered, reused}
use Rattle.h1_app.proofs.DrainTimes.{DrainTimed, drain_timed}
use Rattle.h1_app.proofs.LeavesLemmas.{reads_failed}
use Rattle.h1_app.proofs.TimelyLemmas.{ends_anyhow}
use Rattle.h1_app.specs.Timely.{StepsInTime}
use Rattle.h1_error.specs.declared.progress.End.TheVariants as end
use Rattle.h1_app.proofs.ReplyLemmas.{at_some}
use Rattle.h1_app.proofs.BodyTimeLemmas.{body_grown, drain_noted}
use Rattle.h1_app.proofs.StepLemmas.{grown_stepped}
use Rattle.h1_server.specs.Calls.{is_reused}
use Rattle.h1_transfer.specs.Calls.{CallsFew, read_fault_of}
use Rattle.h1_app.specs.declared.exchange.Stage.TheVariants as at

-- one step less may follow
drain_ahead : (J : Type 0) (old new : Option ℕ) (spent : ℕ) → new ≡ option_map (λ left. left - spent) old
    → ahead {J = J} new at.Next < ahead {J = J} old at.Drain
drain_ahead J old new spent step = rw step (by_budget old)
  where
    by_budget : (budget : Option ℕ)
        → ahead {J = J} (option_map (λ left. left - spent) budget) at.Next
        < ahead {J = J} budget at.Drain
    by_budget None = omega arith
    by_budget (Some left) = omega arith

module _ {L C J : Type 0} (state : L → LinkState)
    (runs : Runs J) (now : ℕ)
    (x : Exchange L J C) (new : SessionView L C) (to : Stage J) (e f : Entry)
    (answer : Poll (Result Bool Error)) (result : Outcome)
    (ready : StepReady runs now x) (stage : x.stage ≡ at.Drain)
    (was : x.transcript.last ≡ Some e) (reuses : ReusesAs state now x.session new e f answer)
    (called : CalledForReuse (state x.session.link) (state new.link) (keeps_alive x.session)
    (is_reused answer) (read_fault_of answer))
    (stands : StandsDrained answer (keeps_alive new) x.stage to result) where
  -- how the exchange stood, what the call did, and what it answered
  draining : IsDraining e x.session
  draining = at_drain runs x.session x.transcript.last x.stage e stage was ready.sound

  did : Reused state x.session new e f
  did = reused state now x.session new e f answer reuses

  told : Answered state x.session new (payload_in f) answer
  told = answered state now x.session new e f answer ready.budget draining.body reuses

  -- a read was not ready at most once, and where the step goes on none was
  drained_few : FewReadsNotReady (state x.session.link) (state new.link) (e ∷ []) (f ∷ []) result
  drained_few = by_answer answer (keeps_alive new) told stands
    where
      same : replies (f ∷ []) ≡ replies (e ∷ [])
      same = ap (λ (x : Entry). replies (x ∷ [])) did.entry

      most : (state new.link).read_waits + replies (e ∷ [])
          ≤ (state x.session.link).read_waits + replies (f ∷ []) + 1
      most = omega (arith, same, did.few)

      by_answer : (answer : Poll (Result Bool Error)) (alive : Bool)
          → Answered state x.session new (payload_in f) answer
          → StandsDrained answer alive x.stage to result
          → FewReadsNotReady (state x.session.link) (state new.link) (e ∷ []) (f ∷ []) result
      by_answer Pending alive a stands = rw stands.1 most
      by_answer (Ready (Err error)) alive a stands = rw stands.1 most
      by_answer (Ready (Ok true)) alive a stands = rw stands.1 (omega (arith, same, a.4))
      by_answer (Ready (Ok false)) true a stands = rw stands.1 most
      by_answer (Ready (Ok false)) false a stands = rw stands.1 most

  drained_outcome : (rules : Rules) → IsAllowed rules e → (pends : J → ℕ)
      → OutcomeCause state pends runs x.session new (Some f) x.stage to result
  drained_outcome rules allowed pends = by_answer answer (keeps_alive new) refl told stands
    where
      old : SessionView L C
      old = x.session

      by_answer : (answer : Poll (Result Bool Error)) (alive : Bool) → keeps_alive new ≡ alive
          → Answered state old new (payload_in f) answer → StandsDrained answer alive x.stage to result
          → OutcomeCause state pends runs old new (Some f) x.stage to result
      by_answer Pending alive lives a stands = rw (stands.0, stands.1, stage) (
        (f, refl, draining_on state old new e f draining did a.2),
        (a.3, λ before done s. drain_waits state old new e f draining did before done a.0 a.1 s),
      )
      by_answer (Ready (Err error)) alive lives a stands = rw stands.1 (λ before done s.
          (a.2, drain_fails state old new e f draining did before done error error.kind a.0 a.1 s))
      by_answer (Ready (Ok true)) alive lives a stands = rw (stands.0, stands.1, stage) (
        (
          f,
          refl,
          draining_on state old new e f draining did a.2,
          drain_over state old new e f draining did a.0 a.1 a.3 a.5,
        ),
        omega arith,
        drain_ahead J old.budget new.budget did.spent did.budget,
      )
      by_answer (Ready (Ok false)) true lives a stands = rw stands.1 (λ before done s.
          drain_overread state old new e f draining did before done (sym a.0 ∙ lives)
          (drain_more state old new e f a lives) s)
      by_answer (Ready (Ok false)) false lives a stands = rw stands.1 (λ before done s.
          drain_shut state old new e f draining did before done rules allowed (sym a.0 ∙ lives) s)

  -- how long it waits
  drained_timely : MovesWithin state x.session new
      → StepsInTime state now x.stage to x.session new x.transcript.last (Some f) result
  drained_timely moves = by_answer answer (keeps_alive new)
      (drain_timed state now x.session new e f answer ready.budget times reuses) stands
    where
      times : f.left.times ≡ x.session.settings.times
      times = ap (λ (x : Entry). x.left.times) did.entry
          ∙ ap (λ (s : Settings). s.times) draining.left

      drain_at : Stage J
      drain_at = at.Drain

      by_answer : (answer : Poll (Result Bool Error)) (alive : Bool)
          → DrainTimed state now e f x.session new answer
          → StandsDrained answer alive x.stage to result
          → StepsInTime state now x.stage to x.session new x.transcript.last (Some f) result
      by_answer Pending alive t stands = rw (stands.0, stands.1, stage, was) (omega arith, t)
      by_answer (Ready (Err error)) alive t stands =
          rw (stands.0, stands.1, stage, was) (omega arith, t)
      by_answer (Ready (Ok true)) alive t stands = rw (stands.0, stands.1) tt
      by_answer (Ready (Ok false)) true t stands = rw (stands.0, stands.1, stage)
          (ends_anyhow state now drain_at drain_at x.session new x.transcript.last (Some f) moves
          (omega arith)
          end.Overread (λ moved. tt))
      by_answer (Ready (Ok false)) false t stands = rw (stands.0, stands.1, stage)
          (ends_anyhow state now drain_at drain_at x.session new x.transcript.last (Some f) moves
          (omega arith)
          end.NotKept (λ moved. tt))

  -- the rest of the request's body is read
  pub drain_stepped : (rules : Rules) → IfSome x.transcript.last (IsAllowed rules)
      → (pends : J → ℕ) (shutdown : Bool) (transcript : TranscriptView) → transcript.last ≡ Some f → Stepped state pends rules runs now shutdown x
      (record { session = new; transcript = transcript; stage = to }) result
  drain_stepped rules allowed pends shutdown transcript is =
      let a = at_some (IsAllowed rules) x.transcript.last e was allowed in
      grown_stepped state pends rules runs now shutdown x
      (record { session = new; transcript = transcript; stage = to }) e f result was is
      (drain_moves state x.session new e f draining did)
      (drain_accounted state x.session new e f draining did)
      (drain_allowed state x.session new e f draining did rules reuses.within a)
      (drain_kept state x.session new e f draining did)
      (drain_grows state x.session new e f draining did now) drained_few
      (body_grown now x.session.body.since.read new.body.since.read (state x.session.link)
      (state new.link) e f (drain_grows state x.session new e f draining did now)
      (drain_noted state now x.session new e f answer reuses)
      (ap (λ (x : Entry). x.body_error) did.entry))
      (drained_timely (drain_moves state x.session new e f draining did)) (drained_outcome rules a pends)

  -- what continues through the step
  pub drain_continues : (same_plan : L → L → Type 0) (begins : J → Type 0) (pends : J → ℕ)
      (transcript : TranscriptView) → transcript.done ≡ x.transcript.done
      → transcript.holding ≡ x.transcript.holding → same_plan x.session.link new.link → Continues state same_plan begins pends x
      (record { session = new; transcript = transcript; stage = to }) result
  drain_continues same_plan begins pends transcript same history plan =
      by_answer answer (keeps_alive new) called.others stands
    where
      y : Exchange L J C
      y = record { session = new; transcript = transcript; stage = to }

      continues : (at_last : Stage J) → to ≡ at_last → JobFrom begins pends at.Drain at_last
          → OthersFew (state x.session.link) (state new.link) at.Drain at_last result
          → Continues state same_plan begins pends x y result
      continues at_last is job few =
          record {
            done = same;
            holding = history;
            plan = plan;
            job = rw (stage, is) job;
            others = rw (stage, is) few;
          }

      by_answer : (answer : Poll (Result Bool Error)) (alive : Bool)
          → CallsFew (state x.session.link) (state new.link) (is_reused answer)
          → StandsDrained answer alive x.stage to result
          → Continues state same_plan begins pends x y result
      by_answer Pending alive few stands = continues at.Drain (stands.0 ∙ stage) tt (rw stands.1 few)
      by_answer (Ready (Err error)) alive few stands =
          continues at.Drain (stands.0 ∙ stage) tt (rw stands.1 few)
      by_answer (Ready (Ok true)) alive few stands =
          continues at.Next stands.0 tt (rw stands.1 (omega (arith, few)))
      by_answer (Ready (Ok false)) true few stands =
          continues at.Drain (stands.0 ∙ stage) tt (rw stands.1 few)
      by_answer (Ready (Ok false)) false few stands =
          continues at.Drain (stands.0 ∙ stage) tt (rw stands.1 few)

  -- what it leaves of its link
  pub drain_leaves : Leaves (state x.session.link) (state new.link) (Some f) (outcome_end result)
  drain_leaves = by_answer answer (keeps_alive new) refl told called.faults stands
    where
      before : LinkState
      before = state x.session.link

      behind : LinkState
      behind = state new.link

      shut_as : (kept : Bool) → keeps_alive x.session ≡ kept → ShutUnless kept before.shut behind
      shut_as kept is = subst (λ t. ShutUnless t before.shut behind) is called.shut

      by_answer : (answer : Poll (Result Bool Error)) (alive : Bool) → keeps_alive new ≡ alive
          → Answered state x.session new (payload_in f) answer
          → FaultsBy before behind (read_fault_of answer)
          → StandsDrained answer alive x.stage to result
          → Leaves before behind (Some f) (outcome_end result)
      by_answer Pending alive lives a faults stands = rw stands.1
          (record { writes = faults.1; reads = inl faults.0; shut = shut_as true a.0 })
      by_answer (Ready (Err error)) alive lives a faults stands =
          let held = reads_failed before behind (Some f) error.kind faults in
          rw stands.1 (record { writes = held.0; reads = held.1; shut = shut_as true a.0 })
      by_answer (Ready (Ok true)) alive lives a faults stands = rw stands.1
          (record { writes = faults.1; reads = inl faults.0; shut = shut_as true a.0 })
      by_answer (Ready (Ok false)) true lives a faults stands = rw stands.1
          (record { writes = faults.1; reads = inl faults.0; shut = shut_as true (sym a.0 ∙ lives) })
      by_answer (Ready (Ok false)) false lives a faults stands = rw stands.1
          (record { writes = faults.1; reads = inl faults.0; shut = shut_as false (sym a.0 ∙ lives) })
