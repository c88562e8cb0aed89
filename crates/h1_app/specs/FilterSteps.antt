-- What a step in which filters run asks for, and what it leaves.
use Rattle.std.specs.Prelude.{◌≡◌, ℕ, List, Bool, Option, IfNone, IfSome}
use Rattle.h1_app.specs.Words.{End, LinkState, Given, Reply, Exchange, Outcome, IsAllowed, Terms}
use Rattle.h1_application.specs.Application.{Runs}
use Rattle.h1_app.specs.Filtering.{Chain, ModulesStand, rules_with}
use Rattle.h1_app.specs.Sound.{Sound}
use Rattle.h1_app.specs.Step.{StepReady, Stepped}
use Rattle.h1_app.specs.Turn.{outcome_end}

-- the exchange is ready for a step, and its modules are as the filters left them that ran for it
pub record FilterReady {L C J M : Type 0} (gives : Given → Reply → Type 0)
    (runs : Runs J) (chain : Chain M) (now : ℕ)
    (modules : List M) (x : Exchange L J C) : Type 0 where
  pub ready : StepReady runs now x
  -- what the last exchange is so far, application and modules may have made
  pub allowed : IfSome x.transcript.last (IsAllowed (rules_with gives chain))
  pub stand : ModulesStand chain x.transcript.last modules

-- what such a step leaves
pub record SteppedWith {L C J M : Type 0} (state : L → LinkState) (pends : J → ℕ)
    (gives : Given → Reply → Type 0)
    (runs : Runs J) (chain : Chain M) (now : ℕ)
    (shutdown : Bool) (modules : List M) (old new : Exchange L J C) (result : Outcome) : Type 0 where
  pub stepped : Stepped state pends (rules_with gives chain) runs now shutdown old new result
  -- the modules stand so again, where the connection goes on
  pub stand : IfNone (outcome_end result) (ModulesStand chain new.transcript.last modules)

-- what always holds of a connection with these modules
pub record SoundWith {L C J M : Type 0} (gives : Given → Reply → Type 0)
    (runs : Runs J) (chain : Chain M)
    (terms : Terms) (x : Exchange L J C) (modules : List M) (end : Option End) : Type 0 where
  pub sound : Sound (rules_with gives chain) runs terms x.session x.transcript.done x.transcript.last
      x.stage end
  -- until an end came the modules are as the filters left them that ran
  pub stand : IfNone end (ModulesStand chain x.transcript.last modules)
  -- exchanges are held as the connection was made to hold them
  pub holding : x.transcript.holding ≡ terms.holding
