-- The end of the reply's body is written, and what is left of the request's body may be read.
use Rattle.std.proofs.Common.{Bool, Err, IfNone, IfSome, IsSome, List, None, Ok, Option, Result, Some, [], ap, append-nil, arith, false, inl, inr, not, refl, subst, sym, true, ℕ, ◌++◌, ◌+◌, ◌<◌, ◌^◌, ◌∙◌, ◌≡◌, ◌⊎◌}
use Rattle.std.proofs.lemmas.Bool.{false≢true}
use Rattle.h1_app.specs.Words.{Chunked, Counted, EndCall, Entry, Error, ErrorType, EndCause, FailureCause, FlushedBy, Framing, IsComplete, IsRefused, IsWrittenShort, LinkState, Outgoing, Pending, Poll, Ready, Reply, Request, ResponseView, Rose, RoseBy, SessionView, Step, UntilClose, WriterView, Writes, after_piece, allowance, begun, end_bytes, is_replied, out, stage_of, written_of}
use Rattle.h1_application.specs.Application.{Runs}
use Rattle.h1_server.specs.Writes.{EndsShort, WritesEnd}
use Rattle.h1_transfer.specs.EndWrites.{EndAnswer, end_stage, goes_on, starts}
use Rattle.h1_transfer.specs.ReplyFraming.{is_begun}
use Rattle.h1_app.proofs.BodyReplies.{writes_nothing}
use Rattle.h1_app.proofs.EndReplies.{complete, short_as, stopped_cause, told_whole}
use Rattle.h1_app.proofs.LeavesLemmas.{short_told}
use Rattle.h1_app.proofs.PartLemmas.{WritesPart, more_of, more_part, part_replied}
use Rattle.h1_app.proofs.ReplyLemmas.{at_none, headed_on, waits_why}
use Rattle.h1_app.proofs.Words.{Accounted, IsBodied, IsDraining, IsFinishing, IsHeaded, IsReplied, SettledSo, SoundStage, coming, failure_of, filled}
use Rattle.h1_app.specs.declared.exchange.Stage.TheVariants as at
use Rattle.h1_error.specs.declared.error.ErrorType.TheVariants as kind
use Rattle.h1_error.specs.declared.progress.End.TheVariants as end
use Rattle.h1_transfer.specs.declared.outgoing.Step.TheVariants as step
use Rattle.h1_body.specs.Writer as writer

-- the exchange whose end is to be written, or is owed
pub record AtFinish {L C : Type 0} (e : Entry) (session : SessionView L C) : Type 0 where
  pub request : Request
  pub reply : Reply
  pub sent : Reply
  pub replied : IsReplied e session request reply
  pub headed : IsHeaded e session sent
  pub sent_body : IsBodied e sent
  pub finishing : IsFinishing e session sent session.reply.step

-- the error of a body that ends short of its length
abbrev pub cut_off : Error
cut_off = record { kind = kind.PrematureBodyEnd; retry = false }

-- the body falls short of the length that its head states
pub record FallsShort {L C : Type 0} (old new : SessionView L C) (e : Entry) (sent : Reply)
    (outcome : Poll (Result (Option ℕ) Error)) : Type 0 where
  pub short : writer.is_short (filled e sent) ≡ true
  pub owed : new.reply.owed ≡ []
  pub answer : outcome ≡ Ready (Err cut_off)

-- what a call that ends the body does: it writes the end, or the body falls short
pub record Ending {L C : Type 0} (state : L → LinkState) (old new : SessionView L C) (e : Entry)
    (sent : Reply) (outcome : Poll (Result (Option ℕ) Error)) : Type 0 where
  pub taking : List ℕ
  pub left : ℕ
  pub writes : Writes state old new taking left
  pub headed : new.reply.headed ≡ old.reply.headed
  pub ended : new.reply.writer ≡ record (filled e sent) { ended = true }
  pub bytes : taking ++ end_bytes new.reply.writer ≡ end_bytes old.reply.writer
  pub answer : ((writer.is_short (filled e sent) ≡ false)
      × EndAnswer (state old.link) (state new.link) old.reply new.reply left outcome)
      ⊎ FallsShort old new e sent outcome

-- a body that falls short has no bytes after its payload
short_ends : (f : Framing) (payload : List ℕ)
    → writer.is_short (after_piece (begun f) payload) ≡ true
    → end_bytes (after_piece (begun f) payload) ≡ []
short_ends (Counted n) payload h = refl
short_ends Chunked payload h = absurd (false≢true h)
short_ends UntilClose payload h = absurd (false≢true h)

module _ {L C : Type 0} (state : L → LinkState) (old new : SessionView L C) (e : Entry)
    (sent : Reply) (outcome : Poll (Result (Option ℕ) Error)) where
  begins_ending : old.reply.writer ≡ filled e sent → writer.is_short (filled e sent) ≡ false
      → WritesEnd state old new starts outcome → Ending state old new e sent outcome
  begins_ending is long w =
      let ended : new.reply.writer ≡ record (filled e sent) { ended = true } =
      w.takes.2 ∙ ap (λ (x : WriterView). record x { ended = true }) is in
      record {
        taking = w.taking;
        left = w.left;
        writes = w.writes;
        headed = w.takes.1;
        ended = ended;
        bytes = ap (λ x. w.taking ++ end_bytes x) ended ∙ append-nil w.taking ∙ w.takes.0;
        answer = inl (long, w.answer);
      }

  goes_on_ending : old.reply.writer ≡ record (filled e sent) { ended = true }
      → writer.is_short (filled e sent) ≡ false
      → WritesEnd state old new goes_on outcome → Ending state old new e sent outcome
  goes_on_ending is long w = record {
    taking = w.taking;
    left = w.left;
    writes = w.writes;
    headed = w.takes.1.headed;
    ended = w.takes.1.writer ∙ is;
    bytes = ap (λ xs. xs ++ end_bytes new.reply.writer) w.takes.0 ∙ ap (λ x. end_bytes x)
        w.takes.1.writer;
    answer = inl (long, w.answer);
  }

  short_ending : old.reply.owed ≡ [] → old.reply.writer ≡ filled e sent
      → old.reply.sent < 2 ^ 64 → writer.is_short old.reply.writer ≡ true
      → EndsShort old new outcome → Ending state old new e sent outcome
  short_ending none is limit short w =
      let short_is : writer.is_short (filled e sent) ≡ true =
      ap (λ x. writer.is_short x) (sym is) ∙ short in
      let ended : Ending state old (record old
      { reply = record old.reply { writer = record old.reply.writer { ended = true } } }) e sent
      outcome = record {
        taking = [];
        left = allowance old.budget;
        writes = writes_nothing state old (record old.reply.writer { ended = true }) limit;
        headed = refl;
        ended = ap (λ (x : WriterView). record x { ended = true }) is;
        bytes = sym (ap (λ x. end_bytes x) is
            ∙ short_ends (out e.head.method sent.header) sent.body short_is);
        answer = inr (record { short = short_is; owed = none; answer = w.answer });
      } in
      subst (λ (x : SessionView L C). Ending state old x e sent outcome) (sym w.ends) ended

  ending_free : (short : Bool) → writer.is_short old.reply.writer ≡ short
      → old.reply.owed ≡ [] → old.reply.writer ≡ filled e sent → old.reply.sent < 2 ^ 64
      → EndCall state old new outcome (end_stage step.Free true short)
      → Ending state old new e sent outcome
  ending_free true short none is limit call = short_ending none is limit short call
  ending_free false short none is limit call =
      begins_ending is (ap (λ x. writer.is_short x) (sym is) ∙ short) call

  ending_at : (s : Step) → old.reply.sent < 2 ^ 64 → IsFinishing e old sent s
      → EndCall state old new outcome
      (end_stage s (is_begun old.reply.writer) (writer.is_short old.reply.writer))
      → Ending state old new e sent outcome
  ending_at step.Free limit h call =
      ending_free (writer.is_short old.reply.writer) refl h.0 h.1 limit
      (subst (λ (b : Bool). EndCall state old new outcome
      (end_stage step.Free b (writer.is_short old.reply.writer))) (ap is_begun h.1) call)
  ending_at step.Finish limit h call = goes_on_ending h.0 h.1 call
  ending_at step.Head limit h call = absurd h
  ending_at (step.Piece count) limit h call = absurd h

pub ending : {L C : Type 0} (state : L → LinkState) (old new : SessionView L C) (e : Entry)
    (outcome : Poll (Result (Option ℕ) Error)) (h : AtFinish e old)
    → IfNone old.reply.refused (EndCall state old new outcome (stage_of old.reply))
    → Ending state old new e h.sent outcome
ending state old new e outcome h call =
    ending_at state old new e h.sent outcome old.reply.step
    (omega (arith, h.replied.asked.written, h.replied.asked.limit)) h.finishing
    (at_none _ old.reply.refused h.headed.refused call)

-- which error a failed end ends with
fails_as_is : (body_error : Option Error) (error : Error) (k : ErrorType) → error.kind ≡ k
    → (k ≡ kind.WriteError) ⊎ (k ≡ kind.NoMemory) → failure_of body_error error ≡ error
fails_as_is None error k is which = refl
fails_as_is (Some body_error) error k is (inl write) = rw (is, write) refl
fails_as_is (Some body_error) error k is (inr memory) = rw (is, memory) refl

plain_cause : (before old now : LinkState) (done : List Entry) (last : Option Entry)
    (body_error : Option Error) (error : Error) (k : ErrorType)
    → error.kind ≡ k → (k ≡ kind.WriteError) ⊎ (k ≡ kind.NoMemory) → error.retry ≡ false
    → FailureCause before old now done last error k
    → EndCause before old now done last (end.Failed (failure_of body_error error))
plain_cause before old now done last body_error error k is which once cause =
    subst (λ (x : Error). EndCause before old now done last (end.Failed x))
    (sym (fails_as_is body_error error k is which))
    (once, subst (λ k. FailureCause before old now done last error k) (sym is) cause)

short_cause : {L C : Type 0} (state : L → LinkState) (before old : LinkState) (done : List Entry)
    (session : SessionView L C) (f : Entry) (body_error : Option Error) (error : Error)
    → error ≡ cut_off → f.body_error ≡ body_error → Accounted state before session done (Some f)
    → IsWrittenShort before (state session.link) done f
    → EndCause before old (state session.link) done (Some f)
    (end.Failed (failure_of body_error error))
short_cause state before old done session f None error is body s short = rw is (refl, (short, body))
short_cause state before old done session f (Some body_error) error is body s short =
    subst (λ (x : Error). EndCause before old (state session.link) done (Some f) (end.Failed x))
    (sym (short_told body_error error (ap (λ (x : Error). x.kind) is)))
    (stopped_cause state before old done session f body_error s body (inr short))

refusal_cause : (before old now : LinkState) (done : List Entry) (reply : Outgoing)
    (last : Option Entry) (body_error : Option Error) (error : Error) (k : ErrorType)
    → error.kind ≡ k → error.retry ≡ false → IsRefused old now reply step.Finish error k
    → EndCause before old now done last (end.Failed (failure_of body_error error))
refusal_cause before old now done reply last body_error error kind.WriteError is once h =
    plain_cause before old now done last body_error error kind.WriteError is (inl refl) once h.0
refusal_cause before old now done reply last body_error error kind.NoMemory is once h =
    plain_cause before old now done last body_error error kind.NoMemory is (inr refl) once tt
refusal_cause before old now done reply last body_error error _ is once h = absurd h

pub same_error : (a b : Error) → ◌≡◌ {A = Poll (Result (Option ℕ) Error)} (Ready (Err a))
    (Ready (Err b)) → a ≡ b
same_error a b h = cc

not_pending : ◌≡◌ {A = Poll (Result (Option ℕ) Error)} Pending (Ready (Err cut_off)) → ⊥
not_pending h = cc

not_done : (count : Option ℕ) → ◌≡◌ {A = Poll (Result (Option ℕ) Error)} (Ready (Ok count))
    (Ready (Err cut_off)) → ⊥
not_done count h = cc

-- a reply whose body was ended and isn't short is whole
replied_whole : (reply : Outgoing) (body : WriterView) → reply.headed ≡ true
    → reply.refused ≡ None
    → reply.writer ≡ record body { ended = true } → writer.is_short body ≡ false
    → is_replied reply ≡ true
replied_whole reply body headed refused ended long =
    rw (headed, refused, ended) (ap (λ short. not short) long)

-- a flush that is asked for is there
flushed_so : (P Q : Type 0) (head : Option ResponseView) → Q → IfSome head (λ head. P → Q)
flushed_so P Q None q = tt
flushed_so P Q (Some head) q = λ p. q

module _ {L C : Type 0} (state : L → LinkState) (old new : SessionView L C) (e : Entry)
    (outcome : Poll (Result (Option ℕ) Error)) (written : ℕ) (h : AtFinish e old)
    (w : Ending state old new e h.sent outcome) (count : written ≡ new.reply.sent) where
  -- the end is the part that is written
  pub ending_part : (now : ℕ) (owed : Bool)
      → WritesPart state now old new w.taking w.left e (more_of e owed written)
  ending_part now owed =
      more_part state now old new e owed written h.request h.reply w.taking w.left h.replied
      w.writes (ap (λ x. w.taking ++ coming x new.reply.writer) h.sent_body.1 ∙ w.bytes
      ∙ ap (λ x. coming x old.reply.writer) (sym h.sent_body.1)) count

  -- what the call answers where the body doesn't fall short
  ends_long : (told : Poll (Result (Option ℕ) Error)) → outcome ≡ told
      → (told ≡ Ready (Err cut_off) → ⊥)
      → (writer.is_short (filled e h.sent) ≡ false)
      × EndAnswer (state old.link) (state new.link) old.reply new.reply w.left told
  ends_long told same other =
      elim w.answer [
        | inl answer ↦ (answer.0, rw same at answer.1)
        | inr short ↦ absurd (other (sym same ∙ short.answer))
      ]

  -- a reply that is ended has no bytes to come
  nothing_comes : end_bytes new.reply.writer ≡ []
  nothing_comes = ap (λ x. end_bytes x) w.ended

  -- the end waits
  pub finish_waits : {J : Type 0}
      (runs : Runs J)
      → outcome ≡ Pending → IsSome old.budget
      → SoundStage runs new (Some (record e { written = written })) at.Finish
      × ((Rose (state old.link).write_waits (state new.link).write_waits ⊎ (new.budget ≡ Some 0))
      × (e.owed ≡ true))
  finish_waits runs pending some =
      let f : Entry = record e { written = written } in
      let told = ends_long Pending pending not_pending in
      let replied = part_replied state 0 old new w.taking w.left e (more_of e e.owed written)
      h.request h.reply (ending_part 0 e.owed) h.replied in
      let headed = headed_on old new e f h.sent refl refl refl w.headed
      (ap (λ s. s.keep) w.writes.rest) told.1.refused h.headed in
      let finishing : IsFinishing f new h.sent new.reply.step =
      rw told.1.at_step (w.ended, told.0) in (
        (f, refl, h.request, h.reply, h.sent, replied, headed, h.sent_body, finishing),
        (waits_why state old new old.keep w.taking w.left some w.writes told.1.why, h.headed.owed),
      )

  -- what is flushed after the call is all of the reply
  pub done_settled : (before : LinkState) (done : List Entry) (told_count : Option ℕ)
      → outcome ≡ Ready (Ok told_count)
      → RoseBy (written_of done + new.reply.sent) before.bytes_out (state new.link).bytes_out
      → SettledSo before (state new.link) done (Some (record e { owed = false; written = written }))
  done_settled before done told_count ready rose =
      let all = (ends_long (Ready (Ok told_count)) ready (not_done told_count)).1.2 in
      let flushed : FlushedBy before (state new.link) (written_of done + written) =
      omega (arith, rose, all, count) in
      flushed_so (◌≡◌ {A = Bool} false false) _ e.sent_head flushed

  -- the reply is whole after the call
  pub finish_done : (before : LinkState) (done : List Entry) (told_count : Option ℕ)
      → outcome ≡ Ready (Ok told_count)
      → Accounted state before new done (Some (record e { owed = false; written = written }))
      → IsComplete before (state new.link) done (record e { owed = false; written = written })
  finish_done before done told_count ready s =
      complete state before done new (record e { owed = false; written = written })
      h.sent.header h.sent_body.0 refl s
      (ends_long (Ready (Ok told_count)) ready (not_done told_count)).1.0.owed nothing_comes
      h.headed.sent_head h.sent_body.1

  -- what is left of the request's body may be read, where it wasn't refused
  pub finish_drains : (told_count : Option ℕ) → outcome ≡ Ready (Ok told_count)
      → e.body_error ≡ None → IsDraining (record e { owed = false; written = written }) new
  finish_drains told_count ready unrefused =
      let told = ends_long (Ready (Ok told_count)) ready (not_done told_count) in
      let asked = h.replied.asked in
      let counted = w.writes.counted in
      record {
        request = h.request;
        is = (ap (λ s. s.request) w.writes.rest) ∙ asked.is;
        wish = asked.wish;
        reply = h.reply;
        replied = h.replied.is;
        left = h.replied.left ∙ sym (ap (λ s. s.settings) w.writes.rest);
        sent = h.sent;
        sent_head = h.headed.sent_head;
        sent_body = h.sent_body;
        headed = w.headed ∙ h.headed.headed;
        keep = h.headed.keep ∙ sym (ap (λ s. s.keep) w.writes.rest);
        framing = ap (λ (x : WriterView). x.framing) w.ended;
        whole = replied_whole new.reply (filled e h.sent) (w.headed ∙ h.headed.headed)
            told.1.0.refused w.ended told.0;
        nothing = ap (λ x. coming x new.reply.writer) h.sent_body.1 ∙ nothing_comes;
        free = told.1.0.free;
        reply_owed = told.1.0.owed;
        owed = refl;
        unrefused = unrefused;
        body = ap (λ s. s.body.refused) w.writes.rest ∙ sym asked.body_error ∙ unrefused;
        kept = ap (λ s. s.body.kept) w.writes.rest ∙ asked.kept;
        waits = ap (λ s. s.body.waits) w.writes.rest ∙ asked.waits;
        written = count;
        limit = omega (arith, counted, count);
        long = short_as (record e { owed = false; written = written }) h.sent h.headed.sent_head
            h.sent_body ∙ told.0;
      }

  -- why a call that failed ends the connection
  pub end_fails : (before : LinkState) (done : List Entry) (error : Error)
      → outcome ≡ Ready (Err error)
      → Accounted state before new done (Some (record e { written = written }))
      → EndCause before (state old.link) (state new.link) done
      (Some (record e { written = written })) (end.Failed (failure_of e.body_error error))
  end_fails before done error failed s =
      let f : Entry = record e { written = written } in
      elim w.answer [
        | inl answer ↦
            let told = rw failed at answer.1 in
            refusal_cause before (state old.link) (state new.link) done new.reply (Some f)
            e.body_error error error.kind refl told.1 told.0
        | inr short ↦ short_cause state before (state old.link) done new f e.body_error error
            (same_error error cut_off (sym failed ∙ short.answer)) refl s (record {
              short = short_as f h.sent h.headed.sent_head h.sent_body ∙ short.short;
              written = told_whole state before done new f h.sent_body.0 s short.owed h.sent_body.1
                  nothing_comes;
            })
      ]
