-- What is set before a head is read is no matter to the step.
use Rattle.std.proofs.Common.{◌≡◌, inl, inr, ℕ, List, Bool, Option, Some, None, refl}
use Rattle.h1_app.specs.Words.{Given, LinkState, SessionView, Settings, Reply, Entry, Exchange, Outcome, Stage, Waiting, BeginsWith, IsSetAlike}
use Rattle.h1_application.specs.Application.{Runs}
use Rattle.h1_error.specs.declared.progress.Waiting.TheVariants as waiting
use Rattle.h1_link.proofs.Laters.{keeps_itself}
use Rattle.h1_app.specs.Outcome.{WaitsOn}
use Rattle.h1_app.specs.Timely.{StepsInTime}
use Rattle.h1_app.specs.declared.exchange.Stage.TheVariants as stage
use Rattle.h1_app.specs.declared.exchange.Outcome.TheVariants as outcome
use Rattle.h1_app.proofs.BeginLemmas.{alike_on}
use Rattle.h1_app.proofs.LinkedLemmas.{accounted_linked}
use Rattle.h1_app.proofs.Words.{Chain, OutcomeCause, Stepped, SteppedWith, rules_with}

begins_set : (a b c : Settings) (last behind : Option Entry) → IsSetAlike a b → BeginsWith b c last behind
    → BeginsWith a c last behind
begins_set a b c None None alike begins = alike_on a b c alike begins
begins_set a b c None (Some e) alike begins = (alike_on a b e.began alike begins.0, begins.1)
begins_set a b c (Some e) behind alike begins = tt

module _ {L C J : Type 0} (state : L → LinkState) (pends : J → ℕ)
    (runs : Runs J) (old new : SessionView L C)
    (settings : Settings) (last : Option Entry) (from to : Stage J) where
  waits_set : (what : Waiting) → WaitsOn state pends (record old { settings = settings }) new last from to what
      → WaitsOn state pends old new last from to what
  waits_set waiting.Read h = h
  waits_set waiting.Write h = h
  waits_set waiting.App h = h
  waits_set waiting.Budget h = h

  timely_set : (now : ℕ) (first : Option Entry) (result : Outcome) → from ≡ stage.Head
      → StepsInTime state now from to (record old { settings = settings }) new first last result
      → StepsInTime state now from to old new first last result
  timely_set now first outcome.Done at h = h
  timely_set now first (outcome.Waits what) at h = rw at (rw at at h)
  timely_set now first (outcome.Ends reason) at h = rw at (rw at at h)

  outcome_set : (result : Outcome)
      → OutcomeCause state pends runs (record old { settings = settings }) new last from to result
      → OutcomeCause state pends runs old new last from to result
  outcome_set outcome.Done h = h
  outcome_set (outcome.Waits what) h = (h.0, waits_set what h.1)
  outcome_set (outcome.Ends reason) h = h

-- a step behind which these settings were set before it
pub set_stepped : {L C J M : Type 0} (state : L → LinkState) (pends : J → ℕ)
    (gives : Given → Reply → Type 0)
    (runs : Runs J) (chain : Chain M) (now : ℕ)
    (shutdown : Bool) (modules : List M) (x y : Exchange L J C) (settings : Settings)
    (result : Outcome) → x.stage ≡ stage.Head → IsSetAlike x.session.settings settings
    → SteppedWith state pends gives runs chain now shutdown modules
    (record x { session = record x.session { settings = settings } }) y result
    → SteppedWith state pends gives runs chain now shutdown modules x y result
set_stepped {L} {C} state pends gives runs chain now shutdown modules x y settings result at alike
    w =
    let set : SessionView L C = record x.session { settings = settings } in
    let s = w.stepped in
    let stepped : Stepped state pends (rules_with gives chain) runs now shutdown x y result =
    record {
      moves = record {
        read = s.moves.read;
        wrote = s.moves.wrote;
        spent = s.moves.spent;
        moved = s.moves.moved;
        budget = s.moves.budget;
        within = s.moves.within;
        context = s.moves.context;
      };
      accounted = λ before done a. s.accounted before done
          (accounted_linked state x.session set x.transcript.last before done
          (keeps_itself (state x.session.link)) refl refl refl refl a);
      allowed = s.allowed;
      kept = s.kept;
      extends = s.extends;
      begins_with = begins_set x.session.settings settings y.session.settings x.transcript.last
          y.transcript.last alike s.begins_with;
      begins_in = s.begins_in;
      reads_not_ready = s.reads_not_ready;
      body = s.body;
      timely = timely_set state pends runs x.session y.session settings y.transcript.last x.stage
          y.stage now x.transcript.last result at s.timely;
      outcome = elim s.outcome [
        | inl cause ↦ inl (outcome_set state pends runs x.session y.session settings
            y.transcript.last x.stage y.stage result cause)
        | inr refused ↦ inr refused
      ];
    } in
    record { stepped = stepped; stand = w.stand }
