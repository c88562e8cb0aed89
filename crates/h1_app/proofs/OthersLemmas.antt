-- How many link calls of a connection moved no byte.
use Rattle.std.proofs.Common.{◌≡◌, ℕ, ◌+◌, ◌*◌, ◌≤◌, length, Bool, false, Option, Some, None, option_to_list, refl, sym, ◌∙◌, ap, length-append, arith}
use Rattle.h1_app.specs.Words.{LinkState, SessionView, Entry, Stage, Outcome, ExtendsLast}
use Rattle.h1_application.specs.Application.{Runs}
use Rattle.h1_app.specs.declared.exchange.Stage.TheVariants as stage
use Rattle.h1_app.specs.declared.exchange.Outcome.TheVariants as outcome
use Rattle.h1_app.proofs.Words.{SoundStage, View, still, still_calls, stops, OthersFew}

still_most : {J : Type 0} (at : Stage J) → still at ≤ 3
still_most stage.Head = omega arith
still_most _ = omega arith

-- where no exchange has begun, the head is awaited
pub awaits_head : {L C J : Type 0}
    (runs : Runs J) (session : SessionView L C)
    (last : Option Entry) (at : Stage J) → SoundStage runs session last at → last ≡ None
    → at ≡ stage.Head
awaits_head runs session last stage.Head h none = refl
awaits_head runs session last _ h none = let clash = sym none ∙ h.1 in cc

-- the calls of the stages that are over are those of the exchange that is last
pub still_last : {L C J : Type 0} (runs : Runs J)
    (session : SessionView L C) (now : ℕ) (shutdown : Bool) (first second : LinkState)
    (last behind : Option Entry) (at : Stage J) → SoundStage runs session last at
    → ExtendsLast now shutdown first second last behind
    → still at ≤ 3 * length (option_to_list behind)
still_last runs session now shutdown first second last (Some e) at sound extends =
    omega (arith, still_most at)
still_last runs session now shutdown first second None None at sound extends =
    rw (awaits_head runs session None at sound refl) (omega arith)
still_last runs session now shutdown first second (Some e) None at sound extends = absurd extends

-- a step of the exchange that is last
pub others_stepped : {L C A J : Type 0} (old now : LinkState) (from to : View L C A J)
    (result : Outcome) → to.done ≡ from.done
    → still from.stage ≤ 3 * length (option_to_list to.last)
    → OthersFew old now from.stage to.stage result
    → now.others + still_calls from false ≤ old.others + still_calls to (stops result)
others_stepped old now from to outcome.Done same most few = omega (arith, few, ap length same)
others_stepped old now from to _ same most few =
    omega (arith, few, most, ap length same, length-append to.done (option_to_list to.last))
