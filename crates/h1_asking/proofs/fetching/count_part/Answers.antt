use Rattle.std.proofs.Common.{◌++◌, ◌+◌, min, ap, ◌∙◌}
use Rattle.h1_asking.proofs.FetchLemmas.{counts_on}
use Rattle.h1_asking.proofs.fetching.count_part.Goals as goal

pub returns-in-Ready-Ok-Some-clause-ok : goal.returns-in-Ready-Ok-Some-clause-ok
returns-in-Ready-Ok-Some-clause-ok g c before request said payload asked is far count = (
  payload ++ c.in-Ready-Ok-Some.piece,
  rw (c.in-Ready-Ok-Some.field-0-is, c.in-Ready-Ok-Some.field-0-0-is)
      at (c.in-Ready-Ok-Some.ensures.reads before request said payload asked is far),
  counts_on payload c.in-Ready-Ok-Some.piece c.args.length.now c.saturating_add.result count
      (c.saturating_add.ensures
      ∙ ap (λ n. min (c.args.length.now + n) 18446744073709551615) c.len.ensures.value),
)

pub returns-in-Ready-Ok-None-clause-ok : goal.returns-in-Ready-Ok-None-clause-ok
returns-in-Ready-Ok-None-clause-ok g c before request said payload asked is far count = (
  payload,
  rw (c.in-Ready-Ok-None.field-0-is, c.in-Ready-Ok-None.field-0-0-is)
      at (c.in-Ready-Ok-None.ensures.reads before request said payload asked is far),
  count,
)

pub returns-in-Pending-clause-ok : goal.returns-in-Pending-clause-ok
returns-in-Pending-clause-ok g c before request said payload asked is far count =
    (payload, c.in-Pending.ensures.reads before request said payload asked is far, count)
