use Rattle.std.proofs.Common.{sym, ap, ◌∙◌}
use Rattle.std.specs.Prelude.{◌||◌}
use Rattle.h1_subrequest.specs.Events.{DirectionView}
use Rattle.h1_subrequest.specs.Upgrade.{is_answered, is_upgraded}
use Rattle.h1_subrequest.proofs.TaskLemmas.{answered-snoc, upgraded-snoc}
use Rattle.h1_subrequest.proofs.sub_core.SubCore.enqueue.Goals as goal

-- both flags are those of the tasks with the one that was put behind them
pub invariant_of-self-2 : goal.invariant_of-self-2
invariant_of-self-2 c =
    let put = c.in_ok-push.ensures.ok in
    let before = c.self.inside.to_handle.put in
    let request = c.self.inside.request in
    let task = c.args.task in (
      c.or-self-inside.ensures
          ∙ ((λ i. c.self.invariant.0 i || c.is_answer-answers.ensures i)
          ∙ (sym (answered-snoc before task)
          ∙ sym (ap (λ (way : DirectionView). is_answered way.put) put))),
      c.or-self-inside-2.ensures
          ∙ ((λ i. c.self.invariant.1 i || c.is_upgrade-upgrades.ensures i)
          ∙ (sym (upgraded-snoc request before task)
          ∙ sym (ap (λ (way : DirectionView). is_upgraded request way.put) put))),
    )
