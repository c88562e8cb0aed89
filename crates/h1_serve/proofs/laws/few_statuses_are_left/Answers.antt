use Rattle.h1_serve.specs.ListenPeer.{IsPeer}
use Rattle.h1_serve.proofs.EndsLemmas.{no_task_leaves, faulty_leaves, lawful_leaves, generated_leaves, listened_leaves}
use Rattle.h1_serve.proofs.laws.few_statuses_are_left.Goals as goal

pub returns-clause-no_task : goal.returns-clause-no_task
returns-clause-no_task g c = no_task_leaves (IsPeer g.L.Link.state g.L.Link.same_plan)

pub returns-clause-faulty : goal.returns-clause-faulty
returns-clause-faulty g c = faulty_leaves (IsPeer g.L.Link.state g.L.Link.same_plan)

pub returns-clause-lawful : goal.returns-clause-lawful
returns-clause-lawful g c = lawful_leaves (IsPeer g.L.Link.state g.L.Link.same_plan)

pub returns-clause-generated : goal.returns-clause-generated
returns-clause-generated g c = generated_leaves (IsPeer g.L.Link.state g.L.Link.same_plan)

pub returns-clause-listened : goal.returns-clause-listened
returns-clause-listened g c = listened_leaves (IsPeer g.L.Link.state g.L.Link.same_plan)
