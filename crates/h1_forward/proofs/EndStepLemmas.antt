-- What the link takes in a step that writes the end of a body.
use Rattle.std.proofs.Common.{◌≡◌, ℕ, Bool, true, false, ◌&&◌, not, is_some, Option, Some, None, IfSome, IfNone, Result, Ok, Err, List, [], ◌++◌, refl, sym, ap, ◌∙◌, subst, inl, inr, append-nil}
use Rattle.std.proofs.lemmas.Bool.{false≢true}
use Rattle.futures.specs.declared.task.Poll.{Poll}
use Rattle.futures.specs.declared.task.Poll.TheVariants.{Pending, Ready}
use Rattle.h1_body.specs.Writer.{WriterView, end_bytes, is_short}
use Rattle.h1_body.specs.declared.framing.Framing.{Framing}
use Rattle.h1_error.specs.declared.error.Error.{Error}
use Rattle.h1_link.specs.LinkState.{LinkState}
use Rattle.h1_transfer.specs.EndWrites.{EndAnswer, EndCall, EndStage, WritesEnd, end_stage, goes_on, stage_of, starts}
use Rattle.h1_transfer.specs.ReplyFraming.{is_begun}
use Rattle.h1_transfer.specs.TransferView.{TransferView, itself}
use Rattle.h1_transfer.specs.declared.outgoing.Outgoing.{Outgoing}
use Rattle.h1_transfer.specs.declared.outgoing.Step.TheVariants as step
use Rattle.h1_client.specs.Calls.{EndWrite}
use Rattle.h1_client.specs.ClientView.{ClientView, call_begun}
use Rattle.h1_client.specs.Upgrading.{EndsWithRequest, ends_both}
use Rattle.h1_forward.specs.declared.forward.Stage.TheVariants as stage
use Rattle.h1_forward.specs.Forwarding.{ForwardView, answer_of, stage_behind}
use Rattle.h1_forward.specs.Runs.{Succeeds}
use Rattle.h1_forward.proofs.TookLemmas.{Took, known_none, owed_of, took_begun, took_sent, writer_of}
use Rattle.h1_forward.proofs.DueLemmas.{Due, EndStands, Takes, failed}

no_end : (writer : WriterView) → is_begun writer ≡ false → end_bytes writer ≡ []
no_end writer none = by writer.framing writer.ended none
  where
    by : (f : Option Framing) (ended : Bool) → (is_some f && not ended) ≡ false
        → end_bytes (record writer { framing = f; ended = ended }) ≡ []
    by None true is = refl
    by None false is = refl
    by (Some f) true is = refl
    by (Some f) false is = absurd (false≢true (sym is))

-- what the write of the end leaves
takes_sent : {L : Type 0} (state : L → LinkState) (f : ForwardView) (s t : ClientView L)
    (due : List ℕ) (told : Poll (Result (Option ℕ) Error))
    → (due ≡ end_bytes (writer_of s)) × EndStands s.transfer.outgoing
    → IfSome s.transfer.outgoing.refused (λ error. (told ≡ Ready (Err error))
    × (t.transfer ≡ (call_begun s).transfer))
    → IfNone s.transfer.outgoing.refused (EndCall state itself (call_begun s).transfer t.transfer told
    (stage_of s.transfer.outgoing))
    → Succeeds (answer_of stage.Done told)
    → Takes state s t (record f { stage = stage_behind stage.End stage.Done told }) due
takes_sent {L} state f s t due told is again writes well =
    by_refusal s.transfer.outgoing.refused again writes
  where
    Goal : Type 0
    Goal = Takes state s t (record f { stage = stage_behind stage.End stage.Done told }) due

    Call : Option EndStage → Type 0
    Call = EndCall state itself (call_begun s).transfer t.transfer told

    ended : (writer : WriterView) → writer.ended ≡ true → end_bytes writer ≡ []
    ended writer over = rw over refl

    -- where the end was taken up
    still : (left : ℕ) (answer : Poll (Result (Option ℕ) Error)) → (writer_of t).ended ≡ true
        → EndAnswer (state s.transfer.link) (state t.transfer.link) s.transfer.outgoing
        t.transfer.outgoing left answer → Succeeds (answer_of stage.Done answer)
        → Due (record f { stage = stage_behind stage.End stage.Done answer }) t.transfer.outgoing []
    still left (Ready (Ok count)) over answer good = (refl, answer.0.owed)
    still left (Ready (Err error)) over answer good = absurd good
    still left Pending over answer good =
        (sym (ended (writer_of t) over), inr (answer.at_step, over))

    taken : (n : ℕ) (taking : List ℕ) → due ≡ taking → (writer_of t).ended ≡ true
        → EndAnswer (state s.transfer.link) (state t.transfer.link) s.transfer.outgoing
        t.transfer.outgoing n told → Took state s t taking → Goal
    taken n taking all over answer took = record {
      taking = taking;
      left = [];
      split = all ∙ sym (append-nil taking);
      still = still n told over answer well;
      took = took;
    }

    -- nothing is there to end
    none : t.transfer ≡ (call_begun s).transfer → told ≡ Ready (Ok None)
        → end_bytes (writer_of s) ≡ [] → owed_of s ≡ [] → Goal
    none same answer no_bytes free = record {
      taking = [];
      left = [];
      split = is.0 ∙ no_bytes;
      still = subst (λ (o : Poll (Result (Option ℕ) Error)).
          Due (record f { stage = stage_behind stage.End stage.Done o }) t.transfer.outgoing []) (sym answer)
          (refl, ap (λ (x : TransferView L). x.outgoing.owed) same ∙ free);
      took = record {
        piece = [];
        wrote = ap (λ (x : TransferView L). (state x.link).written) same
            ∙ sym (known_none (state s.transfer.link).written);
        bytes = append-nil (owed_of s) ∙ ap (λ (x : TransferView L). x.outgoing.owed) (sym same);
      };
    }

    begins : WritesEnd state itself (call_begun s).transfer t.transfer starts told → Goal
    begins writes =
        taken writes.left writes.taking (is.0 ∙ sym writes.takes.0)
        (ap (λ (w : WriterView). w.ended) writes.takes.2) writes.answer
        (took_begun state s t writes.taking
        (took_sent state (call_begun s) t writes.taking _ writes.left writes.writes.sent))

    on : (writer_of s).ended ≡ true
        → WritesEnd state itself (call_begun s).transfer t.transfer goes_on told → Goal
    on over writes =
        taken writes.left writes.taking
        (is.0 ∙ ended (writer_of s) over ∙ sym writes.takes.0)
        (ap (λ (w : WriterView). w.ended) writes.takes.1.writer ∙ over) writes.answer
        (took_begun state s t writes.taking
        (took_sent state (call_begun s) t writes.taking _ writes.left writes.writes.sent))

    free : (b short : Bool) → is_begun (writer_of s) ≡ b → owed_of s ≡ []
        → Call (end_stage step.Free b short) → Goal
    free true true has empty call = absurd (failed stage.Done told _ call.answer well)
    free true false has empty call = begins call
    free false short has empty call =
        none call.same call.answer (no_end (writer_of s) has) empty

    by_stand : EndStands s.transfer.outgoing → Call (stage_of s.transfer.outgoing) → Goal
    by_stand (inl stands) call =
        free (is_begun (writer_of s)) (is_short (writer_of s)) refl stands.1
        (subst (λ st. Call (end_stage st (is_begun (writer_of s)) (is_short (writer_of s))))
        stands.0 call)
    by_stand (inr stands) call =
        on stands.1
        (subst (λ st. Call (end_stage st (is_begun (writer_of s)) (is_short (writer_of s))))
        stands.0 call)

    by_refusal : (refusal : Option Error) → IfSome refusal (λ error. (told ≡ Ready (Err error))
        × (t.transfer ≡ (call_begun s).transfer))
        → IfNone refusal (Call (stage_of s.transfer.outgoing)) → Goal
    by_refusal None again writes = by_stand is.1 writes
    by_refusal (Some error) again writes = absurd (failed stage.Done told error again.0 well)

same_message : {L : Type 0} (sent new : TransferView L) (both : Bool) → EndsWithRequest both sent new
    → (sent.link ≡ new.link) × (sent.outgoing ≡ new.outgoing)
same_message {L} sent new true ends = (
  ap (λ (t : TransferView L). t.link) (sym ends.rest),
  ap (λ (t : TransferView L). t.outgoing) (sym ends.rest),
)
same_message {L} sent new false ends = (
  ap (λ (t : TransferView L). t.link) (sym ends),
  ap (λ (t : TransferView L). t.outgoing) (sym ends),
)

-- The end of a body is written. What becomes of the response's body moves no byte.
pub takes_end : {L : Type 0} (state : L → LinkState) (same_plan : L → L → Type 0)
    (f : ForwardView) (s t : ClientView L) (due : List ℕ) (told : Poll (Result (Option ℕ) Error))
    → (due ≡ end_bytes (writer_of s)) × EndStands s.transfer.outgoing → EndWrite state same_plan s t told
    → Succeeds (answer_of stage.Done told)
    → Takes state s t (record f { stage = stage_behind stage.End stage.Done told }) due
takes_end {L} state same_plan f s t due told is calls well =
    let takes = takes_sent state f s (record t { transfer = calls.sent }) due told is calls.again
    calls.writes well in
    let same = same_message calls.sent t.transfer (ends_both calls.sent told) calls.ends in
    record {
      taking = takes.taking;
      left = takes.left;
      split = takes.split;
      still = subst (λ (o : Outgoing). Due (record f { stage = stage_behind stage.End stage.Done told })
          o takes.left) same.1 takes.still;
      took = record {
        piece = takes.took.piece;
        wrote = ap (λ (l : L). (state l).written) (sym same.0) ∙ takes.took.wrote;
        bytes = takes.took.bytes
            ∙ ap (λ (o : Outgoing). takes.took.piece ++ o.owed) same.1;
      };
    }
