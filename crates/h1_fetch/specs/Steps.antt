-- One poll of a client's script: the call of its session that is next, and what that answers.
use Rattle.std.specs.Prelude.{◌≡◌, ℕ, Bool, true, false, ◌&&◌, ◌||◌, not, is_some, if◌then◌else◌, ◌==◌, List, [], ◌∷◌, length, Option, Some, None, Result}
use Rattle.h1_link.specs.MemPlan.{SamePlan}
use Rattle.h1_client.specs.Words.{Poll, Error, Step, Finish, Free, Head, Piece}
use Rattle.h1_client.specs.ClientView.{response_of}
use Rattle.h1_asking.specs.Turns.{AskTurn, EndTurn, HeadTurn, PartTurn, PieceTurn, is_head}
use Rattle.h1_fetch.specs.ScriptState.{State, link_state}
use Rattle.h1_fetch.specs.Told.{asked_told, body_told, finished_told, is_finished, response_told, sent_told}
use Rattle.h1_fetch.specs.declared.stepping.Call.{Call}
use Rattle.h1_fetch.specs.declared.stepping.Call.TheVariants as call
use Rattle.h1_fetch.specs.declared.told.Told.{Told}

abbrev pub is_piece : Step → Bool
is_piece Free = false
is_piece Head = false
is_piece (Piece count) = true
is_piece Finish = false

abbrev pub has_pieces : List (List ℕ) → Bool
has_pieces pieces = not (length pieces == 0)

abbrev pub step_of : State → Step
step_of s = s.session.transfer.outgoing.step

-- the call that is next: what was said of the request and isn't written yet, and then the response
abbrev pub call_of : State → Call
call_of s =
    if is_some s.head || is_head (step_of s) then call.Head
    else (if has_pieces s.pieces || is_piece (step_of s) then call.Piece
    else (if s.ends && not s.ended then call.End
    else (if is_some (response_of s.session) then call.Body
    else call.Response)))

-- the piece that is handed in, where none is being written, and those that are left
abbrev pub handed_in : Bool → List (List ℕ) → Option (List ℕ)
handed_in true pieces = None
handed_in false [] = None
handed_in false (piece ∷ pieces) = Some piece

abbrev pub left_over : Bool → List (List ℕ) → List (List ℕ)
left_over true pieces = pieces
left_over false [] = []
left_over false (piece ∷ pieces) = pieces

pub record StepsHead (moment : ℕ) (s t : State) (told : Told) : Type 0 where
  pub outcome : Poll (Result ℕ Error)
  pub made : AskTurn link_state SamePlan moment s.session t.session s.head t.head outcome
  pub told_is : told ≡ asked_told t.session.spent outcome
  pub rest : t ≡ record s { session = t.session; head = t.head }

pub record StepsPiece (moment : ℕ) (s t : State) (told : Told) : Type 0 where
  pub kept : Option (List ℕ)
  pub outcome : Poll (Result (Option ℕ) Error)
  pub made : PieceTurn link_state SamePlan moment s.session t.session
      (handed_in (is_piece (step_of s)) s.pieces) kept outcome
  pub told_is : told ≡ sent_told t.session.spent outcome
  pub rest : t ≡ record s {
    session = t.session;
    pieces = left_over (is_piece (step_of s)) s.pieces;
  }

pub record StepsEnd (moment : ℕ) (s t : State) (told : Told) : Type 0 where
  pub outcome : Poll (Result (Option ℕ) Error)
  pub made : EndTurn link_state SamePlan s.session t.session outcome
  pub told_is : told ≡ finished_told t.session.spent outcome
  pub rest : t ≡ record s { session = t.session; ended = is_finished told }

pub record StepsResponse (moment : ℕ) (s t : State) (told : Told) : Type 0 where
  pub outcome : Poll (Result ℕ Error)
  pub made : HeadTurn link_state SamePlan moment s.session t.session outcome
  pub told_is : told ≡ response_told t.session.spent outcome
  pub rest : t ≡ record s { session = t.session }

pub record StepsBody (moment : ℕ) (s t : State) (told : Told) : Type 0 where
  pub outcome : Poll (Result (Option (List ℕ)) Error)
  pub made : PartTurn link_state SamePlan moment s.session t.session outcome
  pub told_is : told ≡ body_told t.session.spent outcome
  pub rest : t ≡ record s { session = t.session }

abbrev pub StepsBy : Call → ℕ → State → State → Told → Type 0
StepsBy call.Head moment s t told = StepsHead moment s t told
StepsBy call.Piece moment s t told = StepsPiece moment s t told
StepsBy call.End moment s t told = StepsEnd moment s t told
StepsBy call.Response moment s t told = StepsResponse moment s t told
StepsBy call.Body moment s t told = StepsBody moment s t told
