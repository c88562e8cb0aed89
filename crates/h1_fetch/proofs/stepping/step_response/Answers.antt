use Rattle.std.proofs.Common.{refl, ap, ◌∙◌}
use Rattle.h1_fetch.specs.Told.{response_told}
use Rattle.h1_fetch.proofs.stepping.step_response.Goals as goal

pub returns : goal.returns
returns c = record {
  outcome = c.read_response-outcome.result;
  made = c.read_response-outcome.ensures.call;
  told_is = c.response_told.ensures
      ∙ ap (λ b. response_told b c.read_response-outcome.result) c.budget_spent.ensures;
  rest = refl;
}
