-- The end of the body is written, or goes on.
use Rattle.std.proofs.Common.{◌∙◌, ap}
use Rattle.h1_forward.specs.Forwarding.{stage_behind}
use Rattle.h1_forward.specs.declared.forward.Stage.{Stage}
use Rattle.h1_forward.specs.declared.forward.Stage.TheVariants.{Done}
use Rattle.h1_forward.proofs.forward.Forward.poll_end.Goals as goal

pub returns-clause-steps : goal.returns-clause-steps
returns-clause-steps g c = record {
  told = c.poll_finish_body-told.result;
  calls = c.poll_finish_body-told.ensures;
  answer = c.judge.ensures.answer;
  next = c.judge.ensures.next ∙ ap (λ (s : Stage). record c.args.self.now {
    stage = stage_behind s Done c.poll_finish_body-told.result;
  }) c.requires.stage;
}
