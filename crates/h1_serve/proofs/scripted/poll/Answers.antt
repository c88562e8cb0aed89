use Rattle.std.proofs.Common.{◌≡◌, ◌++◌, refl, ap, ◌∙◌, subst}
use Rattle.std.specs.Prelude.{⊤}
use Rattle.h1_link.specs.MemRule.{Rule}
use Rattle.h1_app.specs.View.{Served}
use Rattle.h1_echo.specs.declared.echo.EchoApp.{EchoApp}
use Rattle.h1_marking.specs.Marking.{MarkingModule}
use Rattle.h1_serve.specs.State.{new_link}
use Rattle.h1_serve.specs.PollLine.{poll_line}
use Rattle.h1_serve.proofs.LineLemmas.{on_ok}
use Rattle.h1_serve.proofs.PollLemmas.{if_none, polls_once}
use Rattle.h1_serve.proofs.scripted.poll.Goals as goal

pub returns : goal.returns
returns c =
    on_ok c.push.result _ _ (λ text place running.
    let polled = c.poll-answer.ensures in
    let before = subst Rule c.link.ensures c.rule.ensures in
    let behind = subst Rule c.link-2.ensures c.rule-2.ensures in
    let words : c.as_slice.result.now ≡ poll_line c.args.moment c.poll-answer.result =
    c.as_slice.ensures ∙ c.in_ok-line.ensures in
    let is : c.push.new.self ≡ c.args.text.now ++ poll_line c.args.moment c.poll-answer.result =
    text ∙ ap (λ line. c.args.text.now ++ line) words in
    polls_once
    (λ job. ⊤) place _ _ c.args.moment c.poll-answer.result c.args.text.now c.push.new.self running
    (record {
      later = polled.later;
      plan = polled.plan;
      modules = ap (λ (s : Served EchoApp MarkingModule). s.builders) polled.served.0;
      terms = polled.served.1;
      shut = refl;
      accounted = polled.accounted new_link running.accounted;
      agrees = polled.agrees new_link running.accounted;
      extends = polled.extends;
      moves = polled.moves;
      reads_not_ready = polled.reads_not_ready;
      ended = polled.ended;
      leaves = polled.leaves;
      timely = polled.timely;
      cause = if_none c.args.scripted.now.connection.end _ _ (λ cause. cause new_link running.accounted) polled.cause;
    }) before behind c.in_ok-check_memory.ensures is) c.push.ensures.ok
