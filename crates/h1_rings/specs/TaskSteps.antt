-- What the calls of the ends of a ring of tasks leave, by the answer.
use Rattle.std.specs.Prelude.{◌≡◌, List, [], ◌∷◌}
use Rattle.h1_head.specs.declared.task.HttpTask.{HttpTask}
use Rattle.h1_rings.specs.declared.task_ends.PutStep.{PutStep}
use Rattle.h1_rings.specs.declared.task_ends.PutStep.TheVariants as p
use Rattle.h1_rings.specs.declared.task_ends.TakeStep.{TakeStep}
use Rattle.h1_rings.specs.declared.task_ends.TakeStep.TheVariants as t

-- the task was put, or came back with nothing put
abbrev pub PutsAs : (List HttpTask → Type 0) → HttpTask → PutStep → Type 0
PutsAs puts task p.Put = puts (task ∷ [])
PutsAs puts task (p.Full back) = (back ≡ task) × puts []
PutsAs puts task (p.Gone back) = (back ≡ task) × puts []

abbrev pub PutCause : Type 0 → Type 0 → PutStep → Type 0
PutCause full gone p.Put = Unit {0}
PutCause full gone (p.Full back) = full
PutCause full gone (p.Gone back) = gone

abbrev pub TakesAs : (List HttpTask → Type 0) → TakeStep → Type 0
TakesAs takes (t.Task task) = takes (task ∷ [])
TakesAs takes t.Empty = takes []
TakesAs takes t.Ended = takes []

abbrev pub TakeCause : Type 0 → Type 0 → TakeStep → Type 0
TakeCause empty ended (t.Task task) = Unit {0}
TakeCause empty ended t.Empty = empty
TakeCause empty ended t.Ended = ended
