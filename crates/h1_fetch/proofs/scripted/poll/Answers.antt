use Rattle.std.proofs.Common.{◌++◌, ◌∙◌, refl, ap}
use Rattle.h1_fetch.specs.Told.{poll_text}
use Rattle.h1_fetch.proofs.scripted.poll.Goals as goal

pub returns : goal.returns
returns c = (
  poll_text c.args.moment _ c.step-told.result,
  c.in_ok-push.ensures.ok ∙ ap (λ words. c.args.text.now ++ words) (c.as_slice.ensures
      ∙ c.in_ok-lines.ensures
      ∙ ap (λ last. poll_text c.args.moment last c.step-told.result) c.resp_header.ensures),
  record {
    told = c.step-told.result;
    steps = c.step-told.ensures;
    memory = c.in_ok-check_memory.ensures;
    is = refl;
  },
)
