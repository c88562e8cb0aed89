-- What the link takes over the steps that write a request.
use Rattle.std.proofs.Common.{◌≡◌, ℕ, Some, Result, List, [], ◌∷◌, ◌++◌, refl, sym, ap, ◌∙◌, subst, append_assoc, append-nil}
use Rattle.std.specs.Io.KnownBytes.{append_known}
use Rattle.futures.specs.declared.task.Poll.{Poll}
use Rattle.h1_body.specs.Framing.{framing}
use Rattle.h1_body.specs.Writer.{begun}
use Rattle.h1_error.specs.declared.error.Error.{Error}
use Rattle.h1_head.specs.Views.{RequestView}
use Rattle.h1_head.specs.Wire.{request_bytes}
use Rattle.h1_link.specs.LinkState.{LinkState}
use Rattle.h1_transfer.specs.declared.outgoing.Outgoing.{Outgoing}
use Rattle.h1_client.specs.ClientView.{ClientView}
use Rattle.h1_forward.specs.declared.forward.Stage.{Stage}
use Rattle.h1_forward.specs.declared.forward.Stage.TheVariants as stage
use Rattle.h1_forward.specs.Forwarding.{ForwardView, Forwards, ForwardsAt, answer_of, new_forward}
use Rattle.h1_forward.specs.Runs.{Runs, Succeeds, TookRequest}
use Rattle.h1_forward.specs.WrittenBody.{body_from}
use Rattle.h1_forward.proofs.TookLemmas.{owed_of, took_none, took_on, took_still}
use Rattle.h1_forward.proofs.DueLemmas.{Due, Takes}
use Rattle.h1_forward.proofs.HeadStepLemmas.{takes_head}
use Rattle.h1_forward.proofs.BodyStepLemmas.{takes_body}
use Rattle.h1_forward.proofs.EndStepLemmas.{takes_end}

abbrev Answer : Type 0
Answer = Poll (Result Stage Error)

takes_step : {L : Type 0} (state : L → LinkState) (same_plan : L → L → Type 0) (now : ℕ)
    (f g : ForwardView) (s t : ClientView L) (due : List ℕ) (outcome : Answer)
    → Due f s.transfer.outgoing due → Forwards state same_plan now f g s t outcome
    → Succeeds outcome → Takes state s t g due
takes_step {L} state same_plan now f g s t due outcome is forwards well =
    by f.stage refl forwards
  where
    at : (st : Stage) → f.stage ≡ st → Due (record f { stage = st }) s.transfer.outgoing due
    at st same = subst (λ x. Due (record f { stage = x }) s.transfer.outgoing due) same is

    well_of : {T : Type 0} (next : Stage) (told : Poll (Result T Error))
        → outcome ≡ answer_of next told → Succeeds (answer_of next told)
    well_of next told same = subst Succeeds same well

    put : (h : ForwardView) → g ≡ h → Takes state s t h due → Takes state s t g due
    put h same takes = subst (λ x. Takes state s t x due) (sym same) takes

    by : (st : Stage) → f.stage ≡ st → ForwardsAt state same_plan now f g s t outcome st
        → Takes state s t g due
    by stage.Head same step =
        put _ step.next (takes_head state same_plan now f s t g.head due step.told (at stage.Head same)
        step.calls (well_of stage.Body step.told step.answer))
    by stage.Body same step =
        put _ step.next (takes_body state same_plan now f s t g.body due step.told (at stage.Body same)
        step.calls (well_of stage.End step.told step.answer))
    by stage.End same step =
        put _ step.next (takes_end state same_plan f s t due step.told (at stage.End same) step.calls
        (well_of stage.Done step.told step.answer))
    by stage.Done same step =
        let done = at stage.Done same in
        let left : Due f s.transfer.outgoing [] =
        subst (λ x. Due (record f { stage = x }) s.transfer.outgoing []) (sym same) (refl, done.1) in
        subst (λ (u : ClientView L). Takes state s u g due) (sym step.still)
        (subst (λ x. Takes state s s x due) (sym step.same) (record {
          taking = [];
          left = [];
          split = done.0;
          still = left;
          took = took_none state s;
        }))

takes_run : {L : Type 0} (state : L → LinkState) (same_plan : L → L → Type 0) (moments : List ℕ)
    (f g : ForwardView) (s t : ClientView L) (due : List ℕ) → Due f s.transfer.outgoing due
    → Runs state same_plan moments f s g t → Takes state s t g due
takes_run {L} state same_plan [] f g s t due is run =
    subst (λ (u : ClientView L). Takes state s u g due) (sym run.1)
    (subst (λ x. Takes state s s x due) (sym run.0) (record {
      taking = [];
      left = due;
      split = refl;
      still = is;
      took = took_none state s;
    }))
takes_run state same_plan (now ∷ moments) f g s t due is run =
    let first = takes_step state same_plan now f run.0 s run.1 due run.3 is run.4 run.5 in
    let due_then = subst (λ (out : Outgoing). Due run.0 out first.left) (sym run.6.outgoing)
    first.still in
    let rest = takes_run state same_plan moments run.0 g run.2 t first.left due_then run.7 in
    record {
      taking = first.taking ++ rest.taking;
      left = rest.left;
      split = first.split ∙ ap (λ xs. first.taking ++ xs) rest.split
          ∙ sym (append_assoc first.taking rest.taking rest.left);
      still = rest.still;
      took = took_on state s run.2 t first.taking rest.taking
          (took_still state s run.1 run.2 first.taking run.6 first.took) rest.took;
    }

-- once all is done the link took the bytes of the request
pub run_takes : {L : Type 0} (state : L → LinkState) (same_plan : L → L → Type 0)
    (moments : List ℕ) (request : RequestView) (payload : List ℕ) (g : ForwardView) (s t : ClientView L) (front : List ℕ)
    → owed_of s ≡ [] → request_bytes request ≡ Some front
    → Runs state same_plan moments (new_forward request payload) s g t → g.stage ≡ stage.Done
    → TookRequest (state s.transfer.link) (state t.transfer.link) request payload
run_takes {L} state same_plan moments request payload g s t front empty written run done =
    let due = front ++ body_from (begun (framing request)) (payload ∷ []) in
    let all = takes_run state same_plan moments (new_forward request payload) g s t due
    (empty, front, written, refl) run in
    let over : Due (record g { stage = stage.Done }) t.transfer.outgoing all.left =
    subst (λ x. Due (record g { stage = x }) t.transfer.outgoing all.left) done all.still in
    let whole : due ≡ all.taking =
    all.split ∙ ap (λ xs. all.taking ++ xs) over.0 ∙ append-nil all.taking in
    let wrote : all.took.piece ≡ due =
    sym (append-nil all.took.piece)
    ∙ ap (λ xs. all.took.piece ++ xs) (sym over.1)
    ∙ sym all.took.bytes
    ∙ ap (λ xs. xs ++ all.taking) empty
    ∙ sym whole in
    record {
      bytes = due;
      are = record { front = front; head = written; parts = refl };
      took = all.took.wrote
          ∙ ap (λ xs. append_known (state s.transfer.link).written xs) wrote;
    }
