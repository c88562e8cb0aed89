use Rattle.std.proofs.Common.{refl, ap, ◌∙◌}
use Rattle.h1_fetch.specs.Told.{asked_told}
use Rattle.h1_fetch.proofs.stepping.step_head.Goals as goal

pub returns : goal.returns
returns c = record {
  outcome = c.ask-outcome.result;
  made = c.ask-outcome.ensures.call;
  told_is = c.asked_told.ensures ∙ ap (λ b. asked_told b c.ask-outcome.result) c.budget_spent.ensures;
  rest = refl;
}
