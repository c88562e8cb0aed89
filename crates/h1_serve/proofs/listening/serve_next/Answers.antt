use Rattle.std.proofs.Common.{subst, ◌∙◌}
use Rattle.h1_serve.specs.Output.{Wrote}
use Rattle.h1_serve.proofs.listening.serve_next.Goals as goal

pub returns-in-Whole-clause-ok : goal.returns-in-Whole-clause-ok
returns-in-Whole-clause-ok g c = record {
  answer = c.in-Some.answer;
  answers = c.in-Some.ensures.answer;
  wrote = subst (Wrote (g.K.Sink.state c.args.sink.now) (g.K.Sink.state c.write_whole.new.sink))
      (c.as_slice.ensures ∙ c.in-Ok.ensures) c.in-Whole.ensures;
}
