-- Lemmas on the polls of a client's script.
use Rattle.std.proofs.Common.{◌≡◌, ℕ, Bool, List, Option, Result, sym, ap, subst, ◌∙◌}
use Rattle.h1_link.specs.MemPlan.{SamePlan}
use Rattle.h1_link.specs.MemState.{MemState}
use Rattle.h1_client.specs.ClientView.{ClientView}
use Rattle.h1_client.specs.Words.{Poll, Error}
use Rattle.h1_asking.specs.Turns.{PieceTurn}
use Rattle.h1_fetch.specs.ScriptState.{State, link_state}
use Rattle.h1_fetch.specs.Steps.{StepsBy, StepsPiece, call_of, handed_in, is_piece, left_over, step_of}
use Rattle.h1_fetch.specs.Told.{sent_told}
use Rattle.h1_fetch.specs.declared.stepping.Call.{Call}
use Rattle.h1_fetch.specs.declared.told.Told.{Told}

pub steps_piece : (moment : ℕ) (s : State) (session : ClientView MemState) (pieces : List (List ℕ))
    (busy : Bool) (handed kept : Option (List ℕ)) (outcome : Poll (Result (Option ℕ) Error))
    (told : Told) → busy ≡ is_piece (step_of s) → handed ≡ handed_in busy s.pieces
    → pieces ≡ left_over busy s.pieces
    → PieceTurn link_state SamePlan moment s.session session handed kept outcome
    → told ≡ sent_told session.spent outcome
    → StepsPiece moment s (record s { session = session; pieces = pieces }) told
steps_piece moment s session pieces busy handed kept outcome told at next left made is = record {
  kept = kept;
  outcome = outcome;
  made = subst (λ handed. PieceTurn link_state SamePlan moment s.session session handed kept outcome)
      (next ∙ ap (λ busy. handed_in busy s.pieces) at) made;
  told_is = is;
  rest = ap (λ (pieces : List (List ℕ)). record s { session = session; pieces = pieces })
      (left ∙ ap (λ busy. left_over busy s.pieces) at);
}

-- the call that is next is this
pub steps_by : (made : Call) (moment : ℕ) (s t : State) (told : Told) → call_of s ≡ made
    → StepsBy made moment s t told → StepsBy (call_of s) moment s t told
steps_by made moment s t told is steps =
    subst (λ call. StepsBy call moment s t told) (sym is) steps
