-- What the link takes in a step that writes a head.
use Rattle.std.proofs.Common.{◌≡◌, ℕ, Option, Some, None, IfSome, IfNone, Result, Ok, Err, List, [], ◌∷◌, ◌++◌, refl, sym, ap, ◌∙◌, subst, inl, inr, append-nil}
use Rattle.futures.specs.declared.task.Poll.{Poll}
use Rattle.futures.specs.declared.task.Poll.TheVariants.{Pending, Ready}
use Rattle.h1_body.specs.Framing.{framing}
use Rattle.h1_body.specs.Writer.{begun}
use Rattle.h1_error.specs.declared.error.Error.{Error}
use Rattle.h1_head.specs.Views.{RequestView}
use Rattle.h1_head.specs.Wire.{request_bytes}
use Rattle.h1_link.specs.LinkState.{LinkState}
use Rattle.h1_client.specs.Asking.{AsksBy, AsksWith, SendsHead, StaysAsIs, taken_up}
use Rattle.h1_client.specs.ClientView.{ClientView, call_begun, write_refusal}
use Rattle.h1_forward.specs.declared.forward.Stage.TheVariants as stage
use Rattle.h1_client.specs.Calls.{HeadWrite}
use Rattle.h1_forward.specs.Forwarding.{ForwardView, answer_of, stage_behind}
use Rattle.h1_forward.specs.Runs.{Succeeds}
use Rattle.h1_forward.specs.WrittenBody.{body_from}
use Rattle.h1_forward.proofs.TookLemmas.{Took, owed_of, writer_of}
use Rattle.h1_forward.proofs.DueLemmas.{Due, DueHead, Takes, failed}

-- the writer behind the head
abbrev Headed : {L : Type 0} → (L → LinkState) → ClientView L → ClientView L
    → Option RequestView → Option (List ℕ) → List ℕ → Type 0
Headed {L} state s t kept body due = (taking : List ℕ) × (payload : List ℕ) × (body ≡ Some payload)
    × (kept ≡ None) × (due ≡ taking ++ body_from (writer_of t) (payload ∷ []))
    × Took state s t taking

headed_send : {L : Type 0} (state : L → LinkState) (now : ℕ) (s t : ClientView L)
    (told : Poll (Result ℕ Error)) → SendsHead state now s t told
    → Took state s t [] × (writer_of t ≡ writer_of s)
headed_send state now s t told sends = (
  record {
    piece = sends.delivers.sent.piece;
    wrote = sends.delivers.sent.moved.written;
    bytes = append-nil (owed_of s) ∙ sends.delivers.sent.bytes;
  },
  sends.delivers.same.writer,
)

headed_by : {L : Type 0} (state : L → LinkState) (now : ℕ) (s t : ClientView L)
    (head kept : Option RequestView) (body : Option (List ℕ)) (due : List ℕ)
    (told : Poll (Result ℕ Error)) → DueHead head body s.transfer.outgoing due
    → AsksBy state now s t head kept told → Succeeds (answer_of stage.Body told)
    → Headed state s t kept body due
headed_by state now s t head kept None due told is asks well = absurd (no_body head is)
  where
    no_body : (h : Option RequestView) → DueHead h None s.transfer.outgoing due → ⊥
    no_body None none = none
    no_body (Some request) none = none
headed_by state now s t None kept (Some payload) due told is asks well =
    let sent = headed_send state now (call_begun s) t told asks.1 in (
      [],
      payload,
      refl,
      asks.0,
      is ∙ ap (λ w. body_from w (payload ∷ [])) (sym sent.1),
      record { piece = sent.0.piece; wrote = sent.0.wrote; bytes = sent.0.bytes },
    )
headed_by state now s t (Some request) kept (Some payload) due told is (inl starves) well =
    absurd (failed stage.Body told _ starves.0 well)
headed_by {L} state now s t (Some request) kept (Some payload) due told is (inr asks) well =
    by (request_bytes request) is.2 asks
  where
    by : (bytes : Option (List ℕ)) → bytes ≡ Some is.1
        → AsksWith state now s t request kept bytes told → Headed state s t kept (Some payload) due
    by None same with_none = absurd (failed stage.Body told _ with_none.0 well)
    by (Some bytes) same with_bytes =
        let start = taken_up (call_begun s) request bytes in
        let sent = headed_send state now start t told with_bytes.1 in
        let front : bytes ≡ is.1 = cc in (
          bytes,
          payload,
          refl,
          with_bytes.0,
          is.3 ∙ ap (λ xs. xs ++ body_from (begun (framing request)) (payload ∷ [])) (sym front)
              ∙ ap (λ w. bytes ++ body_from w (payload ∷ [])) (sym sent.1),
          record {
            piece = sent.0.piece;
            wrote = sent.0.wrote;
            bytes = ap (λ xs. xs ++ bytes) is.0 ∙ sym (append-nil bytes) ∙ sent.0.bytes;
          },
        )

headed_call : {L : Type 0} (state : L → LinkState) (same_plan : L → L → Type 0) (now : ℕ)
    (s t : ClientView L) (head kept : Option RequestView) (body : Option (List ℕ)) (due : List ℕ)
    (told : Poll (Result ℕ Error)) → DueHead head body s.transfer.outgoing due
    → HeadWrite state same_plan now s t head kept told → Succeeds (answer_of stage.Body told)
    → Headed state s t kept body due
headed_call {L} state same_plan now s t head kept body due told is calls well =
    by (write_refusal s) calls.again calls.asks
  where
    by : (refusal : Option Error) → IfSome refusal (λ error. (told ≡ Ready (Err error))
        × StaysAsIs s t head kept)
        → IfNone refusal (AsksBy state now s t head kept told) → Headed state s t kept body due
    by None again asks = headed_by state now s t head kept body due told is asks well
    by (Some error) again asks = absurd (failed stage.Body told error again.0 well)

pub takes_head : {L : Type 0} (state : L → LinkState) (same_plan : L → L → Type 0) (now : ℕ)
    (f : ForwardView) (s t : ClientView L) (kept : Option RequestView) (due : List ℕ) (told : Poll (Result ℕ Error))
    → DueHead f.head f.body s.transfer.outgoing due → HeadWrite state same_plan now s t f.head kept told
    → Succeeds (answer_of stage.Body told)
    → Takes state s t (record f { stage = stage_behind stage.Head stage.Body told; head = kept })
    due
takes_head {L} state same_plan now f s t kept due told is calls well =
    let headed = headed_call state same_plan now s t f.head kept f.body due told is calls well in
    let left = body_from (writer_of t) (headed.1 ∷ []) in
    record {
      taking = headed.0;
      left = left;
      split = headed.4;
      still = subst
          (λ (b : Option (List ℕ)). Due (record {
            stage = stage_behind stage.Head stage.Body told;
            head = kept;
            body = b;
          }) t.transfer.outgoing left) (sym headed.2)
          (subst (λ (k : Option RequestView). Due (record {
            stage = stage_behind stage.Head stage.Body told;
            head = k;
            body = Some headed.1;
          }) t.transfer.outgoing left) (sym headed.3) (by told well left headed.1 refl));
      took = headed.5;
    }
  where
    by : (answer : Poll (Result ℕ Error)) → Succeeds (answer_of stage.Body answer)
        → (left payload : List ℕ) → left ≡ body_from (writer_of t) (payload ∷ [])
        → Due (record {
          stage = stage_behind stage.Head stage.Body answer;
          head = None;
          body = Some payload;
        }) t.transfer.outgoing left
    by (Ready (Ok count)) good left payload same = same
    by (Ready (Err error)) good left payload same = absurd good
    by Pending good left payload same = same
