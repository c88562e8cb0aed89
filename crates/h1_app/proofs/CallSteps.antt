-- The steps that make one call that writes a part of a reply.
use Rattle.std.proofs.Common.{◌≢◌, ◌⊎◌, inr, Bool, Err, List, None, Ok, Option, Result, Some, [], ap, false, inl, refl, true, ℕ, ◌++◌, ◌+◌, ◌<◌, ◌∙◌, ◌≡◌, ◌≤◌}
use Rattle.h1_app.specs.Words.{Rules, Called, Entry, Error, ErrorType, Exchange, FailureCause, IsAllowed, IsRefused, LinkState, Outcome, Outgoing, Pending, Poll, Ready, Reply, Request, Rose, RoseBy, Stage, Step, Writes, written_of}
use Rattle.h1_application.specs.Application.{Runs}
use Rattle.h1_error.specs.declared.error.ErrorType.TheVariants as kind
use Rattle.h1_transfer.specs.Calls.{CallsFew, OneOther, succeeds, write_fault_of}
use Rattle.h1_transfer.specs.Writes.{IsFree, IsSameBody, IsWaiting}
use Rattle.h1_app.proofs.LeavesLemmas.{write_fails}
use Rattle.h1_app.proofs.PartLemmas.{Part, WritesPart, more_of, more_part, part_accounted, part_grows, part_replied, replying}
use Rattle.h1_app.proofs.ReplyLemmas.{ahead_down, at_some, headed_on, moves_wrote, refused_cause, settled_owed, waits_why}
use Rattle.h1_app.proofs.BodyTimeLemmas.{body_written}
use Rattle.h1_app.proofs.StepLemmas.{AllowedReady, allowed_written, grown_stepped, unread_few}
use Rattle.h1_app.specs.Timely.{StepsInTime}
use Rattle.h1_app.proofs.Words.{IsHeaded, IsReplied, JobFrom, Leaves, MovesWithin, OutcomeCause, SettledSo, SoundStage, Stepped, coming, outcome_end, rank, still, ahead, place, StandsAfter, Continues, OthersFew}

-- a part that waited too long, which only one of a body does
abbrev pub IsLatePart : LinkState → LinkState → Bool → ErrorType → Type 0
IsLatePart before now false k = ⊥
IsLatePart before now true k = (k ≡ kind.WriteTimedout) × Rose before.write_waits now.write_waits

-- what each call that writes a part answers, of a body or not: the part is owed, it is written, or it
-- was refused
abbrev pub AnswersCall : {T : Type 0} → LinkState → LinkState → Outgoing → Step → ℕ → Bool
    → Poll (Result T Error) → Type 0
AnswersCall before now new step left body Pending = IsWaiting before now new step left
AnswersCall before now new step left body (Ready (Ok value)) = IsFree new
AnswersCall before now new step left body (Ready (Err error)) =
    (IsRefused before now new step error error.kind ⊎ IsLatePart before now body error.kind)
    × (error.retry ≡ false)

-- a part that was refused has its cause, with a reply that is owed
late_cause : (before old now : LinkState) (done : List Entry) (reply : Outgoing) (step : Step) (e : Entry)
    (body : Bool) (error : Error) (k : ErrorType) → e.owed ≡ true → (body ≡ true → e.sent_body ≢ None)
    → IsRefused old now reply step error k ⊎ IsLatePart old now body k
    → FailureCause before old now done (Some e) error k
late_cause before old now done reply step e body error k owed sends (inl refused) =
    refused_cause before old now done reply step (Some e) error k refused
late_cause before old now done reply step e false error k owed sends (inr late) = absurd late
late_cause before old now done reply step e true error k owed sends (inr late) =
    rw late.0 (late.1, (sends refl, owed))

-- what continues through such a step: a call that is done makes few calls of the link
pub call_continues : {L C J T : Type 0} (state : L → LinkState) (same_plan : L → L → Type 0)
    (begins : J → Type 0) (pends : J → ℕ) (x y : Exchange L J C) (result : Outcome)
    (answer : Poll (Result T Error)) (done : Bool → Bool) (from owed later : Stage J)
    → x.stage ≡ from → y.transcript.done ≡ x.transcript.done
    → y.transcript.holding ≡ x.transcript.holding → same_plan x.session.link y.session.link
    → JobFrom begins pends from from → JobFrom begins pends from owed
    → JobFrom begins pends from later
    → Called (state x.session.link) (state y.session.link) (done (succeeds answer))
    (write_fault_of answer)
    → (CallsFew (state x.session.link) (state y.session.link) (done false)
    → OneOther (state x.session.link) (state y.session.link))
    → (CallsFew (state x.session.link) (state y.session.link) (done true)
    → (state y.session.link).others + still from ≤ (state x.session.link).others + still later)
    → StandsAfter answer owed later x.stage y.stage result
    → Continues state same_plan begins pends x y result
call_continues {L} {C} {J} {T} state same_plan begins pends x y result answer done from owed later
    stage same history plan job job_owed job_later calls once few stands =
    by_answer answer calls.others (rw stage at stands)
  where
    continues : (to : Stage J) → y.stage ≡ to → JobFrom begins pends from to
        → OthersFew (state x.session.link) (state y.session.link) from to result
        → Continues state same_plan begins pends x y result
    continues to is job others = record {
      done = same;
      holding = history;
      plan = plan;
      job = rw (stage, is) job;
      others = rw (stage, is) others;
    }

    by_answer : (answer : Poll (Result T Error))
        → CallsFew (state x.session.link) (state y.session.link) (done (succeeds answer))
        → StandsAfter answer owed later from y.stage result
        → Continues state same_plan begins pends x y result
    by_answer Pending others stands = continues owed stands.0 job_owed (rw stands.1 (once others))
    by_answer (Ready (Ok value)) others stands =
        continues later stands.0 job_later (rw stands.1 (few others))
    by_answer (Ready (Err error)) others stands =
        continues from stands.0 job (rw stands.1 (once others))

-- what it leaves of its link
pub call_leaves : {J T : Type 0} (before now : LinkState) (last : Option Entry) (done : Bool)
    (answer : Poll (Result T Error)) (owed later from to : Stage J) (result : Outcome)
    → Called before now done (write_fault_of answer) → StandsAfter answer owed later from to result
    → Leaves before now last (outcome_end result)
call_leaves before now last done Pending owed later from to result calls stands = rw stands.1
    (record { writes = calls.faults.1; reads = inl calls.faults.0; shut = calls.shut })
call_leaves before now last done (Ready (Ok value)) owed later from to result calls stands =
    rw stands.1
    (record { writes = calls.faults.1; reads = inl calls.faults.0; shut = calls.shut })
call_leaves before now last done (Ready (Err error)) owed later from to result calls stands =
    rw stands.1 (write_fails before now last done error calls)

module _ {L C J : Type 0} (state : L → LinkState) (pends : J → ℕ) (rules : Rules)
    (runs : Runs J) (now : ℕ) (shutdown : Bool)
    (x y : Exchange L J C) (result : Outcome) (ready : AllowedReady rules runs now x) (e : Entry)
    (was : x.transcript.last ≡ Some e) where
  -- the exchange stood so before
  pub allowed_before : IsAllowed rules e
  allowed_before = at_some (IsAllowed rules) x.transcript.last e was ready.allowed

  -- the step with the part that was written, by why it goes on
  pub part_stepped : (p : Part) (taking : List ℕ) (left : ℕ)
      → WritesPart state now x.session y.session taking left e p
      → y.transcript.last ≡ Some (replying e p)
      → ((before : LinkState) (done : List Entry)
      → RoseBy (written_of done + y.session.reply.sent) before.bytes_out
      (state y.session.link).bytes_out
      → SettledSo before (state y.session.link) done (Some (replying e p)))
      → IsAllowed rules (replying e p)
      → (MovesWithin state x.session y.session
      → StepsInTime state now x.stage y.stage x.session y.session x.transcript.last
      (Some (replying e p)) result)
      → OutcomeCause state pends runs x.session y.session (Some (replying e p)) x.stage y.stage
      result
      → Stepped state pends rules runs now shutdown x y result
  part_stepped p taking left w is settled allowed timely outcome =
      let moves = moves_wrote state x.session y.session w.flag taking left w.writes in
      grown_stepped state pends rules runs now shutdown x y e (replying e p) result was is moves
      (λ before done s. part_accounted state now before done x.session y.session taking left e p w
      (settled before done) s)
      allowed w.counted (part_grows state now x.session y.session taking left e p w)
      (unread_few (state x.session.link) (state y.session.link) e (replying e p) result refl
      w.writes.sent.unread)
      (body_written now x.session.body.since.read y.session.body.since.read (state x.session.link)
      (state y.session.link) e (replying e p)
      (part_grows state now x.session y.session taking left e p w)
      (ap (λ s. s.body.since.read) w.writes.rest) refl)
      (timely moves) outcome

  -- the same where the reply is owed, by what the call answered
  pub call_stepped : {T : Type 0} (body : Bool) (p : Part) (taking : List ℕ) (left : ℕ) (step : Step)
      (answer : Poll (Result T Error)) (owed later : Stage J)
      → WritesPart state now x.session y.session taking left e p
      → y.transcript.last ≡ Some (replying e p) → p.owed ≡ true → IsAllowed rules (replying e p)
      → (body ≡ true → (replying e p).sent_body ≢ None)
      → AnswersCall (state x.session.link) (state y.session.link) y.session.reply step left body answer
      → (y.session.reply.refused ≡ None → y.session.reply.step ≡ step
      → SoundStage runs y.session (Some (replying e p)) owed)
      → (IsFree y.session.reply → SoundStage runs y.session (Some (replying e p)) later
      × (rank later < rank x.stage)
      × (ahead y.session.budget later < ahead x.session.budget x.stage))
      → StandsAfter answer owed later x.stage y.stage result
      → (MovesWithin state x.session y.session
      → StepsInTime state now x.stage y.stage x.session y.session x.transcript.last
      (Some (replying e p)) result)
      → Stepped state pends rules runs now shutdown x y result
  call_stepped {T} body p taking left step answer owed later w is unflushed allowed sends told waits
      done stands timely =
      part_stepped p taking left w is
      (λ before done rose. settled_owed before (state y.session.link) done (replying e p) unflushed)
      allowed timely (by_answer answer told stands)
    where
      by_answer : (answer : Poll (Result T Error))
          → AnswersCall (state x.session.link) (state y.session.link) y.session.reply step left
          body answer
          → StandsAfter answer owed later x.stage y.stage result
          → OutcomeCause state pends runs x.session y.session (Some (replying e p)) x.stage y.stage
          result
      by_answer Pending told stands = rw (stands.0, stands.1) (
        waits told.refused told.at_step,
        (
          waits_why state x.session y.session w.flag taking left ready.budget w.writes told.why,
          unflushed,
        ),
      )
      by_answer (Ready (Ok value)) told stands = rw (stands.0, stands.1) (done told)
      by_answer (Ready (Err error)) told stands = rw stands.1 (λ before done s. (
        told.1,
        late_cause before (state x.session.link) (state y.session.link) done
            y.session.reply step (replying e p) body error error.kind unflushed sends told.0,
      ))

  -- what is left of a round after a step to a later stage
  pub lower : (p : Part) (taking : List ℕ) (left : ℕ) (from later : Stage J)
      → WritesPart state now x.session y.session taking left e p
      → x.stage ≡ from → rank later < rank from → place later < place from
      → (rank later < rank x.stage)
      × (ahead y.session.budget later < ahead x.session.budget x.stage)
  lower p taking left from later w stage less before = (
    rw stage less,
    ahead_down state x.session y.session x.stage later
        (moves_wrote state x.session y.session w.flag taking left w.writes)
        (rw stage before),
  )

  -- a call that goes on with a part takes nothing up
  pub goes_on_stepped : {T : Type 0} (body : Bool) (request : Request) (reply sent : Reply)
      (taking : List ℕ) (left written : ℕ) (step : Step) (answer : Poll (Result T Error))
      (from later : Stage J)
      → x.stage ≡ from → rank later < rank from → place later < place from
      → y.transcript.last ≡ Some (record e { written = written }) → written ≡ y.session.reply.sent
      → IsReplied e x.session request reply → IsHeaded e x.session sent
      → Writes state x.session y.session taking left
      → (taking ≡ []) × IsSameBody x.session.reply y.session.reply
      → (body ≡ true → e.sent_body ≢ None)
      → AnswersCall (state x.session.link) (state y.session.link) y.session.reply step left body answer
      → (IsReplied (record e { written = written }) y.session request reply
      → IsHeaded (record e { written = written }) y.session sent
      → y.session.reply.step ≡ step
      → SoundStage runs y.session (Some (record e { written = written })) from)
      → (IsReplied (record e { written = written }) y.session request reply
      → IsHeaded (record e { written = written }) y.session sent
      → IsFree y.session.reply
      → SoundStage runs y.session (Some (record e { written = written })) later)
      → StandsAfter answer from later x.stage y.stage result
      → (MovesWithin state x.session y.session
      → StepsInTime state now x.stage y.stage x.session y.session x.transcript.last
      (Some (record e { written = written })) result)
      → Stepped state pends rules runs now shutdown x y result
  goes_on_stepped body request reply sent taking left written step answer from later stage less
      before is count replied headed w takes sends told owed free stands timely =
      let p : Part = more_of e e.owed written in
      let part : WritesPart state now x.session y.session taking left e p =
      more_part state now x.session y.session e e.owed written request reply taking left replied w
      (ap (λ xs. xs ++ coming e.sent_body y.session.reply.writer) takes.0
      ∙ ap (λ writer. coming e.sent_body writer) takes.1.writer) count in
      let after : IsReplied (replying e p) y.session request reply =
      part_replied state now x.session y.session taking left e p request reply part replied in
      let headed_after = λ (refused : y.session.reply.refused ≡ None).
      headed_on x.session y.session e (replying e p) sent refl refl refl takes.1.headed
      (ap (λ s. s.keep) w.rest) refused headed in
      let below = lower p taking left from later part stage less before in
      call_stepped body p taking left step answer from later part is headed.owed
      (allowed_written rules e e.sent_body e.owed written allowed_before
      allowed_before.sent_body (λ owed. owed))
      sends told (λ refused at_step. owed after (headed_after refused) at_step)
      (λ done. (free after (headed_after done.refused) done, below.0, below.1)) stands timely
