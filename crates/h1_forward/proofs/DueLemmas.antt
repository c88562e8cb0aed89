-- What of a request is still to be taken up, stage by stage.
use Rattle.std.proofs.Common.{◌≡◌, ℕ, true, Option, Some, None, Result, Err, List, [], ◌∷◌, ◌++◌, subst, ◌⊎◌}
use Rattle.futures.specs.declared.task.Poll.{Poll}
use Rattle.futures.specs.declared.task.Poll.TheVariants.{Ready}
use Rattle.h1_body.specs.Framing.{framing}
use Rattle.h1_body.specs.Writer.{begun, end_bytes}
use Rattle.h1_error.specs.declared.error.Error.{Error}
use Rattle.h1_head.specs.Views.{RequestView}
use Rattle.h1_head.specs.Wire.{request_bytes}
use Rattle.h1_link.specs.LinkState.{LinkState}
use Rattle.h1_transfer.specs.declared.outgoing.Outgoing.{Outgoing}
use Rattle.h1_transfer.specs.declared.outgoing.Step.TheVariants as step
use Rattle.h1_client.specs.ClientView.{ClientView}
use Rattle.h1_forward.specs.declared.forward.Stage.{Stage}
use Rattle.h1_forward.specs.declared.forward.Stage.TheVariants as stage
use Rattle.h1_forward.specs.Forwarding.{ForwardView, answer_of}
use Rattle.h1_forward.specs.Runs.{Succeeds}
use Rattle.h1_forward.specs.WrittenBody.{body_from}
use Rattle.h1_forward.proofs.TookLemmas.{Took}

abbrev pub DueHead : Option RequestView → Option (List ℕ) → Outgoing → List ℕ → Type 0
DueHead (Some request) (Some payload) out due = (out.owed ≡ []) × (front : List ℕ)
    × (request_bytes request ≡ Some front)
    × (due ≡ front ++ body_from (begun (framing request)) (payload ∷ []))
DueHead None (Some payload) out due = due ≡ body_from out.writer (payload ∷ [])
DueHead head None out due = ⊥

abbrev pub DueBody : Option (List ℕ) → Outgoing → List ℕ → Type 0
DueBody (Some payload) out due = due ≡ body_from out.writer (payload ∷ [])
DueBody None out due = due ≡ end_bytes out.writer

-- the end is not begun yet, or it is taken up
abbrev pub EndStands : Outgoing → Type 0
EndStands out = ((out.step ≡ step.Free) × (out.owed ≡ []))
    ⊎ ((out.step ≡ step.Finish) × (out.writer.ended ≡ true))

abbrev pub Due : ForwardView → Outgoing → List ℕ → Type 0
Due f out due = at f.stage where
  at : Stage → Type 0
  at stage.Head = DueHead f.head f.body out due
  at stage.Body = DueBody f.body out due
  at stage.End = (due ≡ end_bytes out.writer) × EndStands out
  at stage.Done = (due ≡ []) × (out.owed ≡ [])

-- a front of what was due is taken up, and the rest is due
pub record Takes {L : Type 0} (state : L → LinkState) (s t : ClientView L) (g : ForwardView)
    (due : List ℕ) : Type 0 where
  pub taking : List ℕ
  pub left : List ℕ
  pub split : due ≡ taking ++ left
  pub still : Due g t.transfer.outgoing left
  pub took : Took state s t taking

pub failed : {T : Type 0} (next : Stage) (told : Poll (Result T Error)) (error : Error)
    → told ≡ Ready (Err error) → Succeeds (answer_of next told) → ⊥
failed {T} next told error is well =
    subst (λ (o : Poll (Result T Error)). Succeeds (answer_of next o)) is well
