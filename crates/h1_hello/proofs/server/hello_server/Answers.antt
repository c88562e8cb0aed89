-- The server has one gate, and its options are set.
use Rattle.std.proofs.Common.{[], ◌∷◌, ap, refl, ◌∙◌}
use Rattle.h1_modules.specs.Builders.{placed}
use Rattle.h1_modules.specs.declared.head_filter.HeadModule.{HeadModule}
use Rattle.h1_hello.specs.declared.gate.Gate.{Gate}
use Rattle.h1_hello.proofs.server.hello_server.Goals as goal

pub returns-clause-app : goal.returns-clause-app
returns-clause-app c =
    ap (λ s. s.modules) c.in_ok-add_module.ensures.ok
    ∙ ap (placed (λ (m : HeadModule Gate). m.order) _) c.new_app-server.ensures.modules
    ∙ ap (λ m. m ∷ []) c.new.ensures

pub returns-clause-terms : goal.returns-clause-terms
returns-clause-terms c = refl
