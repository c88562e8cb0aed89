-- Why a step goes on, waits or ends.
use Rattle.std.specs.Prelude.{◌≡◌, ℕ, ◌<◌, ◌⊎◌, List, true, Option, Some}
use Rattle.h1_app.specs.Words.{Waiting, LinkState, Rose, raised, SessionView, Entry, Stage, Outcome, EndCause, LacksSo, OfLast}
use Rattle.h1_application.specs.Application.{Runs}
use Rattle.h1_error.specs.declared.progress.Waiting.TheVariants as waiting
use Rattle.h1_app.specs.declared.exchange.Stage.TheVariants as stage
use Rattle.h1_app.specs.declared.exchange.Outcome.TheVariants as outcome
use Rattle.h1_app.specs.Accounted.{Accounted}
use Rattle.h1_app.specs.Sound.{SoundStage}
use Rattle.h1_app.specs.Pace.{rank, ahead}

-- the application's job was not ready by itself in this step, once
abbrev pub JobPends : {J : Type 0} → (J → ℕ) → Stage J → Stage J → Type 0
JobPends pends (stage.Answer before) (stage.Answer job) = pends job ≡ raised (pends before) 1
JobPends pends _ _ = ⊥

-- why a step stops; `before` is the link's state since which bytes count, and `done` are the exchanges
-- before the last
abbrev pub WaitsOn : {L C J : Type 0} → (L → LinkState) → (J → ℕ) → SessionView L C
    → SessionView L C → Option Entry → Stage J → Stage J → Waiting → Type 0
WaitsOn state pends old new last from to waiting.Read =
    (Rose (state old.link).read_waits (state new.link).read_waits ⊎ (new.budget ≡ Some 0))
    × ((before : LinkState) (done : List Entry) → Accounted state before new done last
    → LacksSo before (state new.link) done last)
WaitsOn state pends old new last from to waiting.Write =
    (Rose (state old.link).write_waits (state new.link).write_waits ⊎ (new.budget ≡ Some 0))
    × OfLast last (λ e. e.owed ≡ true)
WaitsOn state pends old new last from to waiting.App =
    ((state new.link).read_waits ≡ (state old.link).read_waits) × JobPends pends from to
WaitsOn state pends old new last from to waiting.Budget = ⊥

abbrev pub OutcomeCause : {L C J : Type 0} → (L → LinkState) → (J → ℕ)
    → Runs J → SessionView L C → SessionView L C
    → Option Entry → Stage J → Stage J → Outcome → Type 0
OutcomeCause state pends runs old new last from to outcome.Done =
    SoundStage runs new last to × (rank to < rank from)
    × (ahead new.budget to < ahead old.budget from)
OutcomeCause state pends runs old new last from to (outcome.Waits what) =
    SoundStage runs new last to × WaitsOn state pends old new last from to what
OutcomeCause state pends runs old new last from to (outcome.Ends reason) =
    (before : LinkState) (done : List Entry) → Accounted state before new done last
    → EndCause before (state old.link) (state new.link) done last reason
