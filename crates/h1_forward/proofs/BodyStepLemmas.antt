-- What the link takes in a step that writes a body.
use Rattle.std.proofs.Common.{◌≡◌, ℕ, Option, Some, None, IfSome, IfNone, Result, Ok, Err, List, ◌++◌, refl, sym, ap, ◌∙◌, subst, inl}
use Rattle.futures.specs.declared.task.Poll.{Poll}
use Rattle.futures.specs.declared.task.Poll.TheVariants.{Pending, Ready}
use Rattle.h1_body.specs.Writer.{after_piece, end_bytes}
use Rattle.h1_error.specs.declared.error.Error.{Error}
use Rattle.h1_link.specs.LinkState.{LinkState}
use Rattle.h1_transfer.specs.PieceWrites.{PieceAnswer, PieceTaking, WritesPiece}
use Rattle.h1_transfer.specs.TransferView.{itself}
use Rattle.h1_client.specs.Calls.{PieceWrite}
use Rattle.h1_client.specs.ClientView.{ClientView, call_begun}
use Rattle.h1_client.specs.Settings.{write_deadline}
use Rattle.h1_forward.specs.declared.forward.Stage.TheVariants as stage
use Rattle.h1_forward.specs.Forwarding.{ForwardView, answer_of, stage_behind}
use Rattle.h1_forward.specs.Runs.{Succeeds}
use Rattle.h1_forward.proofs.TookLemmas.{took_begun, took_sent, writer_of}
use Rattle.h1_forward.proofs.DueLemmas.{Due, DueBody, Takes, failed}

pub takes_body : {L : Type 0} (state : L → LinkState) (same_plan : L → L → Type 0) (now : ℕ)
    (f : ForwardView) (s t : ClientView L) (kept : Option (List ℕ)) (due : List ℕ) (told : Poll (Result (Option ℕ) Error))
    → DueBody f.body s.transfer.outgoing due → PieceWrite state same_plan now s t f.body kept told
    → Succeeds (answer_of stage.End told)
    → Takes state s t (record f { stage = stage_behind stage.Body stage.End told; body = kept })
    due
takes_body {L} state same_plan now f s t kept due told is calls well =
    by_refusal s.transfer.outgoing.refused calls.again calls.writes
  where
    Goal : Type 0
    Goal =
        Takes state s t (record f { stage = stage_behind stage.Body stage.End told; body = kept })
        due

    Call : Type 0
    Call = WritesPiece state itself (write_deadline s.settings now) (call_begun s).transfer
        t.transfer f.body kept told

    still : (left : ℕ) (count : Option ℕ) (answer : Poll (Result (Option ℕ) Error))
        → PieceAnswer (state s.transfer.link) (state t.transfer.link) t.transfer.outgoing count
        left answer → Succeeds (answer_of stage.End answer)
        → Due (record f { stage = stage_behind stage.Body stage.End answer; body = None }) t.transfer.outgoing
        (end_bytes (writer_of t))
    still left count (Ready (Ok told)) answer good = (refl, inl (answer.0.free, answer.0.owed))
    still left count (Ready (Err error)) answer good = absurd good
    still left count Pending answer good = refl

    split : (body : Option (List ℕ)) (taking : List ℕ) → DueBody body s.transfer.outgoing due
        → PieceTaking s.transfer.outgoing t.transfer.outgoing taking body
        → due ≡ taking ++ end_bytes (writer_of t)
    split None taking due_is takes =
        due_is ∙ ap end_bytes (sym takes.1.writer)
        ∙ ap (λ xs. xs ++ end_bytes (writer_of t)) (sym takes.0)
    split (Some payload) taking due_is takes =
        due_is
        ∙ ap (λ xs. xs ++ end_bytes (after_piece (writer_of s) payload)) (sym takes.0)
        ∙ ap (λ w. taking ++ end_bytes w) (sym takes.2)

    by_call : Call → Goal
    by_call writes = record {
      taking = writes.taking;
      left = end_bytes (writer_of t);
      split = split f.body writes.taking is writes.takes;
      still = subst (λ (k : Option (List ℕ)). Due (record f {
        stage = stage_behind stage.Body stage.End told;
        body = k;
      }) t.transfer.outgoing (end_bytes (writer_of t))) (sym writes.out)
          (still writes.left _ told writes.answer well);
      took = took_begun state s t writes.taking
          (took_sent state (call_begun s) t writes.taking _ writes.left writes.writes.sent);
    }

    by_refusal : (refusal : Option Error) → IfSome refusal (λ error. (told ≡ Ready (Err error))
        × (t.transfer ≡ (call_begun s).transfer) × (kept ≡ f.body))
        → IfNone refusal Call → Goal
    by_refusal None again writes = by_call writes
    by_refusal (Some error) again writes = absurd (failed stage.End told error again.0 well)
