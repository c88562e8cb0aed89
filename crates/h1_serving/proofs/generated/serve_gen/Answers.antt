use Rattle.std.proofs.Common.{subst, sym}
use Rattle.h1_link.specs.MemRule.{Rule}
use Rattle.h1_link.specs.MemState.{MemState}
use Rattle.h1_serving.specs.declared.serving.TheConstants.{MOST_POLLS}
use Rattle.h1_serving.specs.Whole.{IsServedWhole}
use Rattle.h1_serving.proofs.PlainCalls.{echoed_agrees, echoed_answers}
use Rattle.h1_serving.proofs.WholeLemmas.{called, whole_of, memory_of, if_ok, if_err}
use Rattle.h1_serving.proofs.generated.serve_gen.Goals as goal

pub returns : goal.returns
returns c =
    let s = c.serve_link-answer.ensures in
    let from = c.in_ok-connection.connection in
    let to = c.serve_link-answer.new.connection in
    let answer = c.serve_link-answer.result in
    let call = called c.args.count _ _ from to answer (record {
      few = c.requires;
      ready = c.in_ok-connection.ensures.ok;
      rule = subst Rule c.link.ensures c.rule.ensures;
      terms = s.kept.terms;
      plan = s.kept.plan;
      shut = s.leaves.leaves.shut;
      accounted = s.accounted;
      agrees = λ before h. echoed_agrees _ before _ to (s.agrees before h);
      served = s.served;
      answers = λ before h. echoed_answers (λ (link : MemState). link.state) MOST_POLLS before _ to
          answer
          (s.answer before h);
    }) in
    record {
      ok = if_ok c.handed_back.result _ _
          (λ served h. subst (IsServedWhole c.args.count) (sym h.0)
          (whole_of c.args.count _ _ to answer call h.1)) c.handed_back.ensures.ok;
      err = if_err c.handed_back.result _ _
          (λ error h. memory_of c.args.count _ _ to answer error call h) c.handed_back.ensures.err;
    }
