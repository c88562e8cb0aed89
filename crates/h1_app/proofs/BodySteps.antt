-- The steps that write the body of a reply, whole.
use Rattle.std.proofs.Common.{◌⊎◌, inl, inr, Bool, Err, IfNone, IfSome, List, None, Ok, Option, Result, Some, [], ap, arith, is_some, nat_lt, not, false, refl, sym, true, ℕ, ◌∙◌, ◌≡◌}
use Rattle.std.proofs.lemmas.Option.{none-some}
use Rattle.h1_app.specs.Words.{Rules, Entry, Error, ErrorType, Exchange, IsAllowed, IsRefused, LinkState, Outcome, Outgoing, Rose, Step, Pending, Poll, Ready, Reply, SessionView, Settings, WritesPiece, after_piece, allowance, shown}
use Rattle.h1_application.specs.Application.{Runs}
use Rattle.h1_body.specs.Writer.{piece_bytes}
use Rattle.h1_server.specs.Times.{piece_deadline}
use Rattle.h1_transfer.specs.BodyWrites.{piece_count}
use Rattle.h1_transfer.specs.Deadline.{FailsInTime, IsTimed, Wait, is_timeout, noted_since}
use Rattle.h1_transfer.specs.PieceWrites.{PieceAnswer, RefusesPiece}
use Rattle.h1_app.proofs.BodyReplies.{body_part, empty_body, empty_part, some_body}
use Rattle.h1_app.specs.Timely.{StepsInTime}
use Rattle.h1_app.proofs.PieceTimes.{piece_in_time}
use Rattle.h1_app.proofs.CallSteps.{AnswersCall, call_stepped, goes_on_stepped, lower}
use Rattle.h1_app.proofs.FilteredBody.{MadeBody}
use Rattle.h1_app.proofs.PartLemmas.{Part, WritesPart, more_of, part_replied, replying}
use Rattle.h1_app.proofs.ReplyLemmas.{at_none, at_some, headed_on}
use Rattle.h1_app.proofs.StepLemmas.{AllowedReady, allowed_written}
use Rattle.h1_app.proofs.Words.{IsBodied, IsHeaded, IsReplied, MovesWithin, SoundStage, Stepped, StandsAfter, filled, going}
use Rattle.h1_app.specs.declared.exchange.Stage.TheVariants as at
use Rattle.h1_error.specs.declared.error.ErrorType.TheVariants as kind
use Rattle.h1_app.specs.declared.exchange.Outcome.TheVariants as outcome
use Rattle.h1_transfer.specs.declared.outgoing.Step.TheVariants as step

-- a piece that is refused was, as any write is, or it waited too long, while the last exchange's
-- body was sent and its reply is owed
piece_refused : (before now : LinkState) (new : Outgoing) (step : Step) (wait : Wait)
    (since : Option ℕ) (error : Error) (k : ErrorType) → RefusesPiece before now new step error k
    → FailsInTime (noted_since (Rose before.write_waits now.write_waits) wait since) (is_timeout k)
    → IsRefused before now new step error k
    ⊎ ((k ≡ kind.WriteTimedout) × Rose before.write_waits now.write_waits)
piece_refused before now new step wait since error kind.WriteTimedout told timed =
    inr (refl, timed.link)
piece_refused before now new step wait since error kind.WriteError told timed = inl told
piece_refused before now new step wait since error kind.NoMemory told timed = inl told
piece_refused before now new step wait since error _ told timed = absurd told

-- the wait of a call that writes a piece
abbrev piece_wait : {L C : Type 0} → SessionView L C → ℕ → Option (List ℕ) → ℕ → Wait
piece_wait session now piece left = record {
  deadline = piece_deadline session.settings.times now session.reply piece;
  moved = nat_lt left (allowance session.budget);
  since = session.reply.write_since;
}

piece_answered : (before now : LinkState) (new : Outgoing) (count : Option ℕ) (left : ℕ)
    (wait : Wait) (since : Option ℕ) (answer : Poll (Result (Option ℕ) Error))
    → PieceAnswer before now new count left answer
    → IsTimed (noted_since (Rose before.write_waits now.write_waits) wait since) left answer
    → AnswersCall before now new (step.Piece count) left true answer
piece_answered before now new count left wait since Pending told timed = told.0
piece_answered before now new count left wait since (Ready (Ok taken)) told timed = told.0
piece_answered before now new count left wait since (Ready (Err error)) told timed = (
  piece_refused before now new (step.Piece count) wait since error error.kind told.0 timed,
  told.1,
)

-- a header that was sent stays, whatever body goes with it
headed_with : {L C : Type 0} (e : Entry) (session : SessionView L C) (sent : Reply) (body : List ℕ)
    → IsHeaded e session sent → IsHeaded e session (record sent { body = body })
headed_with e session sent body h = record {
  sent_head = h.sent_head;
  headed = h.headed;
  keep = h.keep;
  refused = h.refused;
  owed = h.owed;
}

module _ {L C J : Type 0} (state : L → LinkState) (pends : J → ℕ) (rules : Rules)
    (runs : Runs J) (now : ℕ) (shutdown : Bool)
    (x y : Exchange L J C) (result : Outcome) (ready : AllowedReady rules runs now x) where
  -- the body goes on
  pub body_stepped : (kept : Option (List ℕ)) (answer : Poll (Result (Option ℕ) Error))
      (written : ℕ) (h : SoundStage runs x.session x.transcript.last at.Body)
      → x.stage ≡ at.Body
      → IfSome x.transcript.last
      (λ e. y.transcript.last ≡ Some (record e { written = written }))
      → IfNone x.session.reply.refused (WritesPiece state now x.session y.session None kept answer)
      → written ≡ y.session.reply.sent
      → StandsAfter answer at.Body at.Finish x.stage y.stage result
      → Stepped state pends rules runs now shutdown x y result
  body_stepped kept answer written h stage is call count stands =
      let e : Entry = h.0 in
      let f : Entry = record e { written = written } in
      let w : WritesPiece state now x.session y.session None kept answer =
      at_none _ x.session.reply.refused h.6.refused call in
      let filled_is = w.takes.1.writer ∙ h.8 in
      let count_is : Option ℕ = piece_count x.session.reply None in
      let bodied : IsBodied f h.4 = h.7 in
      goes_on_stepped state pends rules runs now shutdown x y result ready e h.1 true h.2 h.3 h.4
      w.taking w.left written (step.Piece count_is) answer at.Body at.Finish stage (omega arith)
      (omega arith) (rw h.1 at is) count h.5 h.6 w.writes w.takes
      (λ body none. none-some h.7.0 (sym none ∙ h.7.1))
      (piece_answered (state x.session.link) (state y.session.link) y.session.reply count_is w.left
      (piece_wait x.session now None w.left) y.session.reply.write_since answer w.answer w.timed)
      (λ r headed at_step. (
        f,
        refl,
        h.2,
        h.3,
        h.4,
        r,
        headed,
        bodied,
        filled_is,
        (count_is, at_step),
      ))
      (λ r headed done. (
        f,
        refl,
        h.2,
        h.3,
        h.4,
        r,
        headed,
        bodied,
        rw done.free (done.owed, filled_is),
      ))
      stands
      (λ moves. piece_in_time state now x.session y.session None kept answer w ready.budget f
      (ap (λ (s : Settings). s.times) h.5.left) x.stage y.stage x.transcript.last result
      (rw (stage, h.1) refl) y.session.reply.write_since (rw stage refl)
      (rw stage (omega arith)) stands)

  -- the body is taken up: by a call that writes it, or without one where nothing goes out
  body_taken_stepped : (answer : Poll (Result (Option ℕ) Error)) (written : ℕ)
      (count : Option ℕ) (bytes taking : List ℕ) (left : ℕ)
      (h : SoundStage runs x.session x.transcript.last at.TakeBody)
      → x.stage ≡ at.TakeBody
      → rules.filters.body h.0.head h.3 ≡ Ok bytes
      → y.transcript.last ≡ Some (record h.0 { sent_body = Some bytes; written = written })
      → WritesPart state now x.session y.session taking left h.0
      (record (more_of h.0 h.0.owed written) { body = Some bytes })
      → y.session.reply.headed ≡ x.session.reply.headed
      → y.session.keep ≡ x.session.keep
      → y.session.reply.writer ≡ filled h.0 (record h.4 { body = going h.3 bytes })
      → AnswersCall (state x.session.link) (state y.session.link) y.session.reply (step.Piece count)
      left true answer
      → StandsAfter answer at.Body at.Finish x.stage y.stage result
      → (MovesWithin state x.session y.session
      → StepsInTime state now x.stage y.stage x.session y.session x.transcript.last
      (Some (record h.0 { sent_body = Some bytes; written = written })) result)
      → Stepped state pends rules runs now shutdown x y result
  body_taken_stepped answer written count bytes taking left h stage made is part headed keep writer
      told stands timely =
      let p : Part = record (more_of h.0 h.0.owed written) { body = Some bytes } in
      let f : Entry = replying h.0 p in
      let sent : Reply = record h.4 { body = going h.3 bytes } in
      let r : IsReplied f y.session h.2 h.3 =
      part_replied state now x.session y.session taking left h.0 p h.2 h.3 part h.5 in
      let noted = λ (refused : y.session.reply.refused ≡ None).
      headed_on x.session y.session h.0 f sent refl refl refl headed keep refused
      (headed_with h.0 x.session h.4 (going h.3 bytes) h.6) in
      let bodied : IsBodied f sent =
      (bytes, refl, ap (λ (reply : Option Reply). shown reply bytes) (sym h.5.is)) in
      let below = lower state pends rules runs now shutdown x y result ready h.0 h.1 p taking left
      at.TakeBody at.Finish part stage (omega arith) (omega arith) in
      call_stepped state pends rules runs now shutdown x y result ready h.0 h.1 true p taking left
      (step.Piece count) answer at.Body at.Finish part is h.6.owed
      (allowed_written rules h.0 (Some bytes) h.0.owed written
      (at_some (IsAllowed rules) x.transcript.last h.0 h.1 ready.allowed) (h.3, h.5.is, made)
      (λ owed. owed))
      (λ body none. none-some bytes (sym none))
      told
      (λ refused at_step. (
        f,
        refl,
        h.2,
        h.3,
        sent,
        r,
        noted refused,
        bodied,
        writer,
        (count, at_step),
      ))
      (λ done. (
        (
          f,
          refl,
          h.2,
          h.3,
          sent,
          r,
          noted done.refused,
          bodied,
          rw done.free (done.owed, writer),
        ),
        below.0,
        below.1,
      ))
      stands timely

  -- a body of which nothing goes out needs no call
  pub empty_body_stepped : (piece : Option (List ℕ)) (none : Bool) (f : Entry)
      (h : SoundStage runs x.session x.transcript.last at.TakeBody)
      → x.stage ≡ at.TakeBody → MadeBody rules.filters h.0 h.3 piece f
      → y.transcript.last ≡ Some f
      → is_some piece ≡ not none → none ≡ true
      → y.session ≡ x.session → y.stage ≡ at.Finish → result ≡ outcome.Done
      → Stepped state pends rules runs now shutdown x y result
  empty_body_stepped piece none f h stage b is tells empty same finish done =
      let sent : Reply = record h.4 { body = going h.3 b.bytes } in
      let nothing : sent.body ≡ [] = empty_body sent.body piece none b.notes.goes tells empty in
      let part = empty_part state now x.session h.0 h.2 h.3 sent b.bytes h.5 h.6.sent_head h.7 refl
      h.8 nothing in
      body_taken_stepped (Ready (Ok None)) h.0.written None b.bytes [] (allowance x.session.budget)
      h stage b.made (is ∙ ap Some b.notes.entry) (rw same part.0) (rw same refl) (rw same refl)
      (rw same part.1)
      (rw same (record { owed = h.10; free = h.9; refused = h.6.refused }))
      (finish, done) (λ moves. rw (finish, done) tt)

  -- what goes out of the body is taken up as one piece
  pub taken_body_stepped : (piece kept : Option (List ℕ)) (none : Bool)
      (answer : Poll (Result (Option ℕ) Error)) (written : ℕ) (f : Entry)
      (h : SoundStage runs x.session x.transcript.last at.TakeBody)
      → x.stage ≡ at.TakeBody → MadeBody rules.filters h.0 h.3 piece f
      → y.transcript.last ≡ Some (record f { written = written })
      → is_some piece ≡ not none → none ≡ false
      → IfNone x.session.reply.refused (WritesPiece state now x.session y.session piece kept answer)
      → written ≡ y.session.reply.sent
      → StandsAfter answer at.Body at.Finish x.stage y.stage result
      → Stepped state pends rules runs now shutdown x y result
  taken_body_stepped piece kept none answer written f h stage b is tells some call count stands =
      let sent : Reply = record h.4 { body = going h.3 b.bytes } in
      let w : WritesPiece state now x.session y.session (Some sent.body) kept answer =
      rw (some_body sent.body piece none b.notes.goes tells some) at
      (at_none _ x.session.reply.refused h.6.refused call) in
      let writer = w.takes.2 ∙ ap (λ x. after_piece x sent.body) h.8 in
      body_taken_stepped answer written (piece_count x.session.reply (Some sent.body)) b.bytes
      w.taking w.left h stage b.made
      (is ∙ ap (λ (e : Entry). Some (record e { written = written })) b.notes.entry)
      (body_part state now x.session y.session h.0 h.2 h.3 sent b.bytes w.taking w.left written h.5
      h.6.sent_head h.7 refl w.writes (w.takes.0 ∙ ap (λ x. piece_bytes x sent.body) h.8) writer
      count)
      w.takes.1 (ap (λ s. s.keep) w.writes.rest) writer
      (piece_answered (state x.session.link) (state y.session.link) y.session.reply
      (piece_count x.session.reply (Some sent.body)) w.left
      (piece_wait x.session now (Some sent.body) w.left) y.session.reply.write_since answer w.answer
      w.timed)
      stands
      (λ moves. piece_in_time state now x.session y.session (Some sent.body) kept answer w
      ready.budget (record h.0 { sent_body = Some b.bytes; written = written })
      (ap (λ (s : Settings). s.times) h.5.left) x.stage y.stage x.transcript.last result
      (rw (stage, h.1) (sym h.11)) None (rw stage refl) (rw stage (omega arith)) stands)
