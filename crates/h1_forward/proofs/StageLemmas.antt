-- Where a client stands behind a stage of a request that is forwarded.
use Rattle.std.proofs.Common.{◌≡◌, ℕ, Bool, true, false, Option, Some, None, is_some, IfSome, IfNone, IsSome, Result, Ok, Err, List, refl, sym, ap, ◌∙◌, subst, inl, inr, ◌⊎◌}
use Rattle.std.proofs.lemmas.Bool.{false≢true}
use Rattle.futures.specs.declared.task.Poll.{Poll}
use Rattle.futures.specs.declared.task.Poll.TheVariants.{Pending, Ready}
use Rattle.h1_error.specs.declared.error.Error.{Error}
use Rattle.h1_head.specs.Views.{RequestView}
use Rattle.h1_head.specs.Wire.{request_bytes}
use Rattle.h1_link.specs.LinkState.{LinkState}
use Rattle.h1_transfer.specs.BodyWrites.{IsPieceStep}
use Rattle.h1_transfer.specs.Writing.{DeliveryAnswer}
use Rattle.h1_transfer.specs.declared.delivering.Delivery.TheVariants.{Flushed}
use Rattle.h1_transfer.specs.declared.outgoing.Step.{Step}
use Rattle.h1_transfer.specs.declared.outgoing.Step.TheVariants as step
use Rattle.h1_client.specs.Asking.{AsksBy, AsksWith, IsAskStep, SendsHead, Starves, StaysAsIs, ask_answer, is_late, taken_up}
use Rattle.h1_client.specs.ClientView.{ClientView, call_begun, request_of, write_refusal}
use Rattle.h1_client.specs.Settings.{write_deadline}
use Rattle.h1_forward.specs.declared.forward.Stage.{Stage}
use Rattle.h1_forward.specs.declared.forward.Stage.TheVariants.{Head, Body}
use Rattle.h1_client.specs.Calls.{HeadWrite}
use Rattle.h1_forward.specs.Forwarding.{ForwardView, GoesOn, IsAt, HasAsked, answer_of, stage_behind}

-- the head is written, or its writing goes on
abbrev Behind : {L : Type 0} → ClientView L → Option RequestView → Poll (Result ℕ Error) → Type 0
Behind t kept (Ready (Ok count)) = IsSome (request_of t) × (t.transfer.outgoing.step ≡ step.Free)
Behind t kept (Ready (Err error)) = Unit {0}
Behind t kept Pending =
    IsSome (request_of t) × (t.transfer.outgoing.step ≡ step.Head) × (kept ≡ None)

behind_error : {L : Type 0} (t : ClientView L) (kept : Option RequestView)
    (told : Poll (Result ℕ Error)) (error : Error) → told ≡ Ready (Err error) → Behind t kept told
behind_error t kept told error is =
    subst (λ (o : Poll (Result ℕ Error)). Behind t kept o) (sym is) tt

behind_send : {L : Type 0} (state : L → LinkState) (now : ℕ) (s t : ClientView L)
    (kept : Option RequestView) (told : Poll (Result ℕ Error)) → SendsHead state now s t told
    → s.transfer.outgoing.step ≡ step.Head → IsSome (request_of s) → kept ≡ None
    → Behind t kept told
behind_send {L} state now s t kept told sends at some handed =
    subst (λ (o : Poll (Result ℕ Error)). Behind t kept o) (sym sends.judges.answer)
    (by (is_late s.asked sends.told sends.left (write_deadline s.settings now)) sends.told
    sends.delivers.answer)
  where
    asked : IsSome (request_of t)
    asked = ap (λ a. is_some a.request) sends.judges.asked ∙ some

    by : (late : Bool) (answer : Poll (Result (Unit {0}) Error))
        → DeliveryAnswer Flushed s.transfer.outgoing.refused (state s.transfer.link)
        (state t.transfer.link) t.transfer.outgoing s.transfer.outgoing.step sends.delivers.left
        answer
        → Behind t kept (ask_answer late s.asked.length answer)
    by true answer delivered = tt
    by false (Ready (Ok done)) delivered = (asked, delivered.0.free)
    by false (Ready (Err error)) delivered = tt
    by false Pending delivered = (asked, delivered.0.at_step ∙ at, handed)

behind_asked : {L : Type 0} (state : L → LinkState) (now : ℕ) (s t : ClientView L)
    (head kept : Option RequestView) (told : Poll (Result ℕ Error))
    → AsksBy state now s t head kept told
    → IsAskStep head (request_of s) s.transfer.outgoing.step → HasAsked head (request_of s)
    → Behind t kept told
behind_asked state now s t None kept told asks at has =
    behind_send state now (call_begun s) t kept told asks.1 at has asks.0
behind_asked state now s t (Some head) kept told (inl starves) at has =
    behind_error t kept told _ starves.0
behind_asked {L} state now s t (Some head) kept told (inr asks) at has =
    by (request_bytes head) asks
  where
    by : (bytes : Option (List ℕ)) → AsksWith state now s t head kept bytes told
        → Behind t kept told
    by None with_none = behind_error t kept told _ with_none.0
    by (Some bytes) with_bytes =
        behind_send state now (taken_up (call_begun s) head bytes) t kept told with_bytes.1 refl
        refl with_bytes.0

behind_call : {L : Type 0} (state : L → LinkState) (same_plan : L → L → Type 0) (now : ℕ)
    (s t : ClientView L) (head kept : Option RequestView) (told : Poll (Result ℕ Error))
    → HeadWrite state same_plan now s t head kept told
    → IsAskStep head (request_of s) s.transfer.outgoing.step → HasAsked head (request_of s)
    → Behind t kept told
behind_call {L} state same_plan now s t head kept told calls at has =
    by (write_refusal s) calls.again calls.asks
  where
    by : (refusal : Option Error) → IfSome refusal (λ error. (told ≡ Ready (Err error))
        × StaysAsIs s t head kept)
        → IfNone refusal (AsksBy state now s t head kept told) → Behind t kept told
    by None again asks = behind_asked state now s t head kept told asks at has
    by (Some error) again asks = behind_error t kept told error again.0

some_body : (body : Option (List ℕ)) (at : Step) → IsSome body → at ≡ step.Free
    → IsPieceStep body at
some_body None at some free = absurd (false≢true some)
some_body (Some piece) at some free = free

-- the next stage goes on where the head's call left the client
pub head_goes_on : {L : Type 0} (state : L → LinkState) (same_plan : L → L → Type 0)
    (now : ℕ) (f : ForwardView) (s t : ClientView L) (kept : Option RequestView) (told : Poll (Result ℕ Error))
    → f.stage ≡ Head → IsAt f s → HeadWrite state same_plan now s t f.head kept told
    → GoesOn (record f { stage = stage_behind f.stage Body told; head = kept }) t
    (answer_of Body told)
head_goes_on {L} state same_plan now f s t kept told is at calls =
    goes told (behind_call state same_plan now s t f.head kept told calls stands.0 stands.1)
  where
    at_head : ForwardView
    at_head = record f { stage = Head }

    stands : IsAt at_head s
    stands = subst (λ st. IsAt (record f { stage = st }) s) is at

    goes : (answer : Poll (Result ℕ Error)) → Behind t kept answer
        → GoesOn (record f { stage = stage_behind f.stage Body answer; head = kept }) t
        (answer_of Body answer)
    goes (Ready (Ok count)) behind =
        ((behind.0, some_body f.body t.transfer.outgoing.step stands.2 behind.1), refl)
    goes (Ready (Err error)) behind = tt
    goes Pending behind =
        subst (λ st. IsAt (record f { stage = st; head = kept }) t) (sym is)
        (subst (λ (k : Option RequestView). IsAt (record f { stage = Head; head = k }) t)
        (sym behind.2) (behind.1, behind.0, stands.2))
