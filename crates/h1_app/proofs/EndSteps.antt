-- The step that ends a reply, whole.
use Rattle.std.proofs.Common.{Bool, Err, IfNone, IfSome, None, Ok, Option, Result, Some, ap, arith, false, inl, inr, refl, subst, sym, ℕ, ◌∙◌, ◌≡◌, ◌⊎◌}
use Rattle.std.proofs.lemmas.Bool.{false≢true}
use Rattle.h1_app.specs.Words.{Rules, EndCall, Entry, Error, ErrorType, Exchange, IsAllowed, LinkState, Outcome, Pending, Poll, Ready, Stage, stage_of}
use Rattle.h1_application.specs.Application.{Runs}
use Rattle.h1_app.specs.Timely.{FailsInTime, StepsInTime}
use Rattle.h1_app.specs.Work.{rest_waits}
use Rattle.h1_error.specs.declared.error.ErrorType.TheVariants as kind
use Rattle.h1_transfer.specs.Deadline.{is_timeout}
use Rattle.h1_transfer.specs.ReadWaits.{no_wait}
use Rattle.h1_transfer.specs.declared.outgoing.Step.TheVariants as step
use Rattle.h1_transfer.specs.declared.since.Since.{Since}
use Rattle.h1_app.proofs.CallSteps.{part_stepped}
use Rattle.h1_app.proofs.PieceTimes.{refused_untimed}
use Rattle.h1_app.proofs.TimelyLemmas.{ends_anyhow, never_timed, untimed_waits, where_late}
use Rattle.h1_app.proofs.EndReplies.{stopped_cause}
use Rattle.h1_app.proofs.FinishReplies.{AtFinish, Ending, cut_off, done_settled, ending, end_fails, ending_part, finish_done, finish_drains, finish_waits, same_error}
use Rattle.h1_app.proofs.PartLemmas.{more_of}
use Rattle.h1_app.proofs.ReplyLemmas.{ahead_down, at_some, moves_wrote, settled_owed}
use Rattle.h1_app.proofs.StepLemmas.{AllowedReady, allowed_written}
use Rattle.h1_app.proofs.Words.{MovesWithin, OutcomeCause, SoundStage, Stepped, failure_of}
use Rattle.h1_app.specs.declared.exchange.Stage.TheVariants as at
use Rattle.h1_error.specs.declared.progress.End.TheVariants as end
use Rattle.h1_app.specs.declared.exchange.Outcome.TheVariants as outcome
use Rattle.h1_error.specs.declared.progress.Waiting.TheVariants as waiting

-- where an exchange stands whose reply is whole
abbrev pub StandsWhole : {J : Type 0} → Option Error → Stage J → Stage J → Outcome → Type 0
StandsWhole None from to result = (to ≡ at.Drain) × (result ≡ outcome.Done)
StandsWhole (Some error) from to result = (to ≡ from) × (result ≡ outcome.Ends (end.Failed error))

-- where a reply stands after the call that ends it: the end is owed, the reply is whole, or the
-- call failed
abbrev pub StandsEnded : {J : Type 0} → Poll (Result (Option ℕ) Error) → Entry → ℕ → Option Entry
    → Stage J → Stage J → Outcome → Type 0
StandsEnded Pending e written last from to result =
    (last ≡ Some (record e { written = written })) × (to ≡ from)
    × (result ≡ outcome.Waits waiting.Write)
StandsEnded (Ready (Ok count)) e written last from to result =
    (last ≡ Some (record e { owed = false; written = written })) × StandsWhole e.body_error from to
    result
StandsEnded (Ready (Err error)) e written last from to result =
    (last ≡ Some (record e { written = written })) × (to ≡ from)
    × (result ≡ outcome.Ends (end.Failed (failure_of e.body_error error)))

-- a failure tells of a time only where it is the error of the request's body
failure_timed : (body_error : Option Error) (error : Error) → is_timeout error.kind ≡ false
    → (Late : Error → Type 0) → ((told : Error) → body_error ≡ Some told → Late told)
    → FailsInTime (Late (failure_of body_error error)) (failure_of body_error error).kind
failure_timed None error none Late late = never_timed (Late error) error.kind none
failure_timed (Some told) error none Late late = by (one_of error.kind refl) where
  one_of : (k : ErrorType) → error.kind ≡ k
      → (failure_of (Some told) error ≡ error) ⊎ (failure_of (Some told) error ≡ told)
  one_of kind.PrematureBodyEnd is = rw is (inr refl)
  one_of _ is = rw is (inl refl)

  by : (failure_of (Some told) error ≡ error) ⊎ (failure_of (Some told) error ≡ told)
      → FailsInTime (Late (failure_of (Some told) error)) (failure_of (Some told) error).kind
  by (inl same) = subst (λ (e : Error). FailsInTime (Late e) e.kind) (sym same)
      (never_timed (Late error) error.kind none)
  by (inr same) = subst (λ (e : Error). FailsInTime (Late e) e.kind) (sym same)
      (where_late (Late told) told.kind (late told refl))

-- nothing of the rest of a body waits before it is read
undrained_rest : (since : Since) → since.drain ≡ None → rest_waits since ≡ no_wait
undrained_rest since none = rw none refl

-- the end of the reply is written
pub finish_stepped : {L C J : Type 0} (state : L → LinkState) (pends : J → ℕ)
    (rules : Rules)
    (runs : Runs J)
    (now : ℕ) (shutdown : Bool) (x y : Exchange L J C)
    (answer : Poll (Result (Option ℕ) Error)) (written : ℕ) (result : Outcome)
    → AllowedReady rules runs now x → SoundStage runs x.session x.transcript.last at.Finish
    → x.stage ≡ at.Finish → IfNone x.session.reply.refused
    (EndCall state x.session y.session answer (stage_of x.session.reply))
    → written ≡ y.session.reply.sent → IfSome x.transcript.last
    (λ e. StandsEnded answer e written y.transcript.last x.stage y.stage result)
    → Stepped state pends rules runs now shutdown x y result
finish_stepped {L} {C} {J} state pends rules runs now shutdown x y answer written result ready s
    stage call count stands =
    let h : AtFinish s.0 x.session =
    record {
      request = s.2;
      reply = s.3;
      sent = s.4;
      replied = s.5;
      headed = s.6;
      sent_body = s.7;
      finishing = s.8;
    } in
    by_answer s.0 s.1 h (ending state x.session y.session s.0 answer h call) answer refl
    (rw s.1 at stands)
  where
    at_finish : Stage J
    at_finish = at.Finish

    -- the end is still owed
    owed : (e : Entry) → x.transcript.last ≡ Some e
        → y.transcript.last ≡ Some (record e { written = written })
        → (h : AtFinish e x.session) → Ending state x.session y.session e h.sent answer
        → (MovesWithin state x.session y.session → StepsInTime state now x.stage y.stage x.session
        y.session x.transcript.last (Some (record e { written = written })) result)
        → OutcomeCause state pends runs x.session y.session (Some (record e { written = written }))
        x.stage y.stage result
        → Stepped state pends rules runs now shutdown x y result
    owed e was is h w timely outcome =
        let a = at_some (IsAllowed rules) x.transcript.last e was ready.allowed in
        part_stepped state pends rules runs now shutdown x y result ready e was
        (more_of e e.owed written) w.taking w.left
        (ending_part state x.session y.session e answer written h w count now e.owed) is
        (λ before done rose. settled_owed before (state y.session.link) done
        (record e { written = written }) h.headed.owed)
        (allowed_written rules e e.sent_body e.owed written a a.sent_body (λ owed. owed)) timely
        outcome

    -- the reply is whole
    by_error : (e : Entry) (h : AtFinish e x.session)
        (w : Ending state x.session y.session e h.sent answer) (counted : Option ℕ)
        → answer ≡ Ready (Ok counted) → (error : Option Error) → e.body_error ≡ error
        → StandsWhole error x.stage y.stage result
        → OutcomeCause state pends runs x.session y.session
        (Some (record e { owed = false; written = written })) x.stage y.stage result
    by_error e h w counted told None none stands = rw (stands.0, stands.1, stage) (
      (
        record e { owed = false; written = written },
        refl,
        finish_drains state x.session y.session e answer written h w count counted told none,
      ),
      omega arith,
      ahead_down {J = J} state x.session y.session at.Finish at.Drain
          (moves_wrote state x.session y.session x.session.keep w.taking w.left w.writes)
          (omega arith),
    )
    by_error e h w counted told (Some error) some stands = rw stands.1
        (λ before done s. stopped_cause state before (state x.session.link) done y.session
        (record e { owed = false; written = written }) error s some
        (inl (finish_done state x.session y.session e answer written h w count before done
        counted told s)))

    -- the drain of the body begins, or an error of it is told
    in_time : (e : Entry) (h : AtFinish e x.session)
        → Ending state x.session y.session e h.sent answer
        → MovesWithin state x.session y.session
        → (error : Option Error) → e.body_error ≡ error → StandsWhole error x.stage y.stage result
        → StepsInTime state now x.stage y.stage x.session y.session x.transcript.last
        (Some (record e { owed = false; written = written })) result
    in_time e h w moves None none stands = rw (stands.0, stands.1) (undrained_rest
        y.session.body.since (rw (ap (λ s. s.body) w.writes.rest) h.replied.asked.undrained))
    in_time e h w moves (Some error) some stands = rw (stands.0, stands.1, stage)
        (ends_anyhow state now at_finish at_finish x.session y.session x.transcript.last
        (Some (record e { owed = false; written = written })) moves (omega arith)
        (end.Failed error)
        (λ moved. where_late (e.body_error ≡ Some error) error.kind some))

    -- an error in writing the end tells of no time
    end_untimed : (e : Entry) (h : AtFinish e x.session)
        → Ending state x.session y.session e h.sent answer
        → (error : Error) → answer ≡ Ready (Err error) → is_timeout error.kind ≡ false
    end_untimed e h w error told = elim w.answer [
      | inl long ↦ let refused = rw told at long.1 in refused_untimed (state x.session.link)
          (state y.session.link) y.session.reply step.Finish error error.kind refused.0
      | inr short ↦ ap (λ (error : Error). is_timeout error.kind)
          (same_error error cut_off (sym told ∙ short.answer))
    ]

    by_answer : (e : Entry) → x.transcript.last ≡ Some e → (h : AtFinish e x.session)
        → Ending state x.session y.session e h.sent answer
        → (told : Poll (Result (Option ℕ) Error)) → answer ≡ told
        → StandsEnded told e written y.transcript.last x.stage y.stage result
        → Stepped state pends rules runs now shutdown x y result
    by_answer e was h w Pending told stands = owed e was stands.0 h w
        (λ moves. rw (stands.1, stands.2, stage)
        (untimed_waits state now at_finish at_finish x.session y.session x.transcript.last
        (Some (record e { written = written })) moves (omega arith) waiting.Write refl))
        (rw (stands.1, stands.2, stage)
        (finish_waits state x.session y.session e answer written h w count runs told ready.budget))
    by_answer e was h w (Ready (Err error)) told stands = owed e was stands.0 h w
        (λ moves. rw (stands.1, stands.2, stage)
        (ends_anyhow state now at_finish at_finish x.session y.session x.transcript.last
        (Some (record e { written = written })) moves (omega arith)
        (end.Failed (failure_of e.body_error error))
        (λ moved. failure_timed e.body_error error (end_untimed e h w error told)
        (λ error. e.body_error ≡ Some error) (λ error is. is))))
        (rw stands.2 (λ before done s. end_fails state x.session y.session e answer written h w
        count before done error told s))
    by_answer e was h w (Ready (Ok counted)) told stands =
        let a = at_some (IsAllowed rules) x.transcript.last e was ready.allowed in
        part_stepped state pends rules runs now shutdown x y result ready e was
        (more_of e false written) w.taking w.left
        (ending_part state x.session y.session e answer written h w count now false) stands.0
        (λ before done rose. done_settled state x.session y.session e answer written h w count
        before done counted told rose)
        (allowed_written rules e e.sent_body false written a a.sent_body
        (λ owed. absurd (false≢true owed)))
        (λ moves. in_time e h w moves e.body_error refl stands.1)
        (by_error e h w counted told e.body_error refl stands.1)
