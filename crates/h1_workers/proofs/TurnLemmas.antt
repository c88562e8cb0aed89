-- One peer more is answered in its turn.
use Rattle.std.proofs.Common.{◌≡◌, ℕ, ◌+◌, ◌≤◌, List, [], ◌∷◌, ◌++◌, length, length-append, refl, sym, subst, arith, Result}
use Rattle.h1_error.specs.declared.error.Error.{Error}
use Rattle.h1_error.specs.declared.progress.Progress.{Progress}
use Rattle.h1_link.specs.ClockState.{ClockState}
use Rattle.h1_link.specs.LinkState.{LinkState}
use Rattle.h1_workers.specs.Workers.{Answers, InTurn, Stands}

turn_more : {L : Type 0} (state : L → LinkState) (stands : Stands L)
    (before now ended : ClockState) (answers : List (Result Progress Error))
    (one : Result Progress Error) → InTurn state stands before answers now
    → Answers state stands now ended one → InTurn state stands before (answers ++ one ∷ []) ended
turn_more {L} state stands before now ended [] one turn is =
    (ended, subst (λ (c : ClockState). Answers state stands c ended one) turn is, refl)
turn_more {L} state stands before now ended (answer ∷ more) one turn is =
    (turn.0, turn.1, turn_more state stands turn.0 now ended more one turn.2 is)

-- so many were answered in turn, and here is one more
pub one_more : {L : Type 0} (state : L → LinkState) (stands : Stands L)
    (before now ended : ClockState) (answers told : List (Result Progress Error))
    (one : Result Progress Error) (n : ℕ) → told ≡ answers ++ one ∷ []
    → (length answers ≤ n) × InTurn state stands before answers now
    → Answers state stands now ended one
    → (length told ≤ n + 1) × InTurn state stands before told ended
one_more {L} state stands before now ended answers told one n is was more =
    subst (λ (xs : List (Result Progress Error)).
    (length xs ≤ n + 1) × InTurn state stands before xs ended) (sym is) (
      omega (arith, was.0, length-append answers (one ∷ [])),
      turn_more state stands before now ended answers one was.1 more,
    )
