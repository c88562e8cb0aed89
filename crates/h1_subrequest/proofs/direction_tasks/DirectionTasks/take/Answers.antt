use Rattle.std.proofs.Common.{rules, ap, ◌∙◌}
use Rattle.h1_subrequest.specs.Events.{DirectionView, taken_from}
use Rattle.h1_subrequest.proofs.QueueLemmas.{taken_from-front}
use Rattle.h1_subrequest.proofs.direction_tasks.DirectionTasks.take.Goals as goal

pub returns-then-self-len : goal.returns-then-self-len
returns-then-self-len c =
    taken_from-front c.self.inside.put.items c.self.inside.taken c.self.inside.closed
    c.self.inside.gone (search rules)
    ∙ ap (λ (way : DirectionView). taken_from way way.queue) c.self.view_is
