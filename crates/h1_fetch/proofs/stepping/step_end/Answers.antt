use Rattle.std.proofs.Common.{ap, Bool, ◌∙◌}
use Rattle.h1_fetch.specs.ScriptState.{state_of}
use Rattle.h1_fetch.specs.Told.{finished_told}
use Rattle.h1_fetch.proofs.stepping.step_end.Goals as goal

pub returns : goal.returns
returns c =
    let s = state_of c.args.scripted.now in
    record {
      outcome = c.finish-outcome.result;
      made = c.finish-outcome.ensures.call;
      told_is = c.finished_told-told.ensures
          ∙ ap (λ b. finished_told b c.finish-outcome.result) c.budget_spent.ensures;
      rest = ap (λ (ended : Bool). record s { session = c.finish-outcome.new.session; ended = ended })
          c.is_finished-scripted.ensures;
    }
