-- Writing a request with its whole body by a client's session, stage by stage (RFC 9112, sections 3
-- to 7).
use Rattle.std.specs.Prelude.{◌≡◌, ℕ, List, Option, Some, None, Result, Ok, Err, IsSome}
use Rattle.futures.specs.declared.task.Poll.{Poll}
use Rattle.futures.specs.declared.task.Poll.TheVariants.{Pending, Ready}
use Rattle.h1_error.specs.declared.error.Error.{Error}
use Rattle.h1_head.specs.Views.{RequestView}
use Rattle.h1_link.specs.LinkState.{LinkState}
use Rattle.h1_transfer.specs.BodyWrites.{IsPieceStep, IsEndStep}
use Rattle.h1_client.specs.Asking.{IsAskStep}
use Rattle.h1_client.specs.Calls.{EndWrite, HeadWrite, PieceWrite}
use Rattle.h1_client.specs.ClientView.{ClientView, request_of}
use Rattle.h1_forward.specs.declared.forward.Stage.{Stage}
use Rattle.h1_forward.specs.declared.forward.Stage.TheVariants.{Head, Body, End, Done}

-- a request on its way: what is written next, and the head and the body that aren't handed in yet
pub record ForwardView : Type 0 where
  pub stage : Stage
  pub head : Option RequestView
  pub body : Option (List ℕ)

-- nothing was handed in
abbrev pub new_forward : RequestView → List ℕ → ForwardView
new_forward request payload = record { stage = Head; head = Some request; body = Some payload }

-- the client has the request, once the head was handed in
abbrev pub HasAsked : Option RequestView → Option RequestView → Type 0
HasAsked (Some head) request = Unit {0}
HasAsked None request = IsSome request

-- the client stands where this stage goes on
abbrev pub IsAt : {L : Type 0} → ForwardView → ClientView L → Type 0
IsAt {L} f s = at f.stage where
  at : Stage → Type 0
  at Head = IsAskStep f.head (request_of s) s.transfer.outgoing.step
      × HasAsked f.head (request_of s) × IsSome f.body
  at Body = IsSome (request_of s) × IsPieceStep f.body s.transfer.outgoing.step
  at End = IsSome (request_of s) × IsEndStep s.transfer.outgoing.step
  at Done = Unit {0}

-- the answer of a stage, by what the client's call told
abbrev pub answer_of : {T : Type 0} → Stage → Poll (Result T Error) → Poll (Result Stage Error)
answer_of next (Ready (Ok value)) = Ready (Ok next)
answer_of next (Ready (Err error)) = Ready (Err error)
answer_of next Pending = Pending

-- the stage behind it
abbrev pub stage_behind : {T : Type 0} → Stage → Stage → Poll (Result T Error) → Stage
stage_behind was next (Ready (Ok value)) = next
stage_behind was next (Ready (Err error)) = was
stage_behind was next Pending = was

-- the head is handed in, or goes on
pub record ForwardsHead {L : Type 0} (state : L → LinkState) (same_plan : L → L → Type 0)
    (now : ℕ) (old new : ForwardView) (before behind : ClientView L)
    (outcome : Poll (Result Stage Error)) : Type 0 where
  pub told : Poll (Result ℕ Error)
  pub calls : HeadWrite state same_plan now before behind old.head new.head told
  pub answer : outcome ≡ answer_of Body told
  pub next : new ≡ record old { stage = stage_behind Head Body told; head = new.head }

-- the body is handed in, or goes on
pub record ForwardsBody {L : Type 0} (state : L → LinkState) (same_plan : L → L → Type 0)
    (now : ℕ) (old new : ForwardView) (before behind : ClientView L)
    (outcome : Poll (Result Stage Error)) : Type 0 where
  pub told : Poll (Result (Option ℕ) Error)
  pub calls : PieceWrite state same_plan now before behind old.body new.body told
  pub answer : outcome ≡ answer_of End told
  pub next : new ≡ record old { stage = stage_behind Body End told; body = new.body }

-- the end is begun, or goes on
pub record ForwardsEnd {L : Type 0} (state : L → LinkState) (same_plan : L → L → Type 0)
    (old new : ForwardView) (before behind : ClientView L) (outcome : Poll (Result Stage Error))
    : Type 0 where
  pub told : Poll (Result (Option ℕ) Error)
  pub calls : EndWrite state same_plan before behind told
  pub answer : outcome ≡ answer_of Done told
  pub next : new ≡ record old { stage = stage_behind End Done told }

-- nothing is left to do
pub record ForwardsNothing {L : Type 0} (old new : ForwardView) (before behind : ClientView L)
    (outcome : Poll (Result Stage Error)) : Type 0 where
  pub same : new ≡ old
  pub still : behind ≡ before
  pub answer : outcome ≡ Ready (Ok Done)

-- one step, by the stage
abbrev pub ForwardsAt : {L : Type 0} → (L → LinkState) → (L → L → Type 0) → ℕ → ForwardView
    → ForwardView → ClientView L → ClientView L → Poll (Result Stage Error) → Stage → Type 0
ForwardsAt state same_plan now old new before behind outcome Head =
    ForwardsHead state same_plan now old new before behind outcome
ForwardsAt state same_plan now old new before behind outcome Body =
    ForwardsBody state same_plan now old new before behind outcome
ForwardsAt state same_plan now old new before behind outcome End =
    ForwardsEnd state same_plan old new before behind outcome
ForwardsAt state same_plan now old new before behind outcome Done =
    ForwardsNothing old new before behind outcome

abbrev pub Forwards : {L : Type 0} → (L → LinkState) → (L → L → Type 0) → ℕ → ForwardView
    → ForwardView → ClientView L → ClientView L → Poll (Result Stage Error) → Type 0
Forwards state same_plan now old new before behind outcome =
    ForwardsAt state same_plan now old new before behind outcome old.stage

-- where the next step goes on, unless this one failed
abbrev pub GoesOn : {L : Type 0} → ForwardView → ClientView L → Poll (Result Stage Error) → Type 0
GoesOn f s (Ready (Ok next)) = IsAt f s × (f.stage ≡ next)
GoesOn f s (Ready (Err error)) = Unit {0}
GoesOn f s Pending = IsAt f s
