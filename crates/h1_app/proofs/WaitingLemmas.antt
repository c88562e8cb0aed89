-- A poll that met nothing that wasn't ready waits for its budget.
use Rattle.std.proofs.Common.{◌≡◌, ℕ, refl}
use Rattle.h1_transfer.specs.declared.budget.TheConstants.{CALL_BUDGET}
use Rattle.h1_app.specs.Words.{Waiting, Rose, RoseBy, LinkState}
use Rattle.h1_error.specs.declared.progress.Waiting.TheVariants as waiting
use Rattle.h1_app.proofs.Words.{PendedBy, WaitCause, View}

pub only_budget : {L C A J : Type 0} (begins : J → Type 0) (pends : J → ℕ)
    (before old now : LinkState) (from to : View L C A J) (what : Waiting)
    → WaitCause begins pends before old now from to what
    → (Rose old.read_waits now.read_waits → ⊥) → (Rose old.write_waits now.write_waits → ⊥)
    → (PendedBy begins pends from.done to.done from.stage to.stage → ⊥)
    → (what ≡ waiting.Budget) × RoseBy CALL_BUDGET old.moves now.moves
only_budget begins pends before old now from to waiting.Read cause reads writes pended = absurd (reads cause.0)
only_budget begins pends before old now from to waiting.Write cause reads writes pended = absurd (writes cause.0)
only_budget begins pends before old now from to waiting.App cause reads writes pended = absurd (pended cause.1)
only_budget begins pends before old now from to waiting.Budget cause reads writes pended = (refl, cause.0)
