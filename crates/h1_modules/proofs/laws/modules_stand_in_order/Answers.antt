use Rattle.h1_modules.proofs.BuilderLemmas.{placed_descends, placed_last}
use Rattle.h1_modules.proofs.laws.modules_stand_in_order.Goals as goal

pub returns-clause-descends : goal.returns-clause-descends
returns-clause-descends g c =
    λ added builders d. placed_descends g.B.HttpModuleBuilder.order added builders d

pub returns-clause-as_added : goal.returns-clause-as_added
returns-clause-as_added g c =
    λ added builders order d. placed_last g.B.HttpModuleBuilder.order order added builders d
