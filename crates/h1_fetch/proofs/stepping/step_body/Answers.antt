use Rattle.std.proofs.Common.{refl, ap, ◌∙◌}
use Rattle.h1_fetch.specs.Told.{body_told}
use Rattle.h1_fetch.proofs.stepping.step_body.Goals as goal

pub returns : goal.returns
returns c = record {
  outcome = c.read_piece-outcome.result;
  made = c.read_piece-outcome.ensures.call;
  told_is = c.body_told.ensures
      ∙ ap (λ b. body_told b c.read_piece-outcome.result) c.budget_spent.ensures;
  rest = refl;
}
