-- The server has one module, which stamps.
use Rattle.std.proofs.Common.{List, [], ◌∷◌, IfOk, Ok, None, ap, ◌∙◌, subst, false}
use Rattle.std.proofs.lemmas.Result.{IfOk-weaker}
use Rattle.h1_link.specs.MemState.{new_mem_state}
use Rattle.h1_modules.specs.Builders.{placed}
use Rattle.h1_modules.specs.declared.head_filter.HeadModule.{HeadModule}
use Rattle.h1_transcript.specs.Agrees.{Agrees}
use Rattle.h1_app.specs.Filtering.{Chain, rules_with}
use Rattle.h1_app.specs.LawfulHeads.{head_chain}
use Rattle.h1_app.specs.View.{entries, terms_of}
use Rattle.h1_greeting.specs.declared.stamp.Stamp.{Stamp}
use Rattle.h1_greeting.specs.Greeting.{Greeting}
use Rattle.h1_greeting.specs.Stamped.{stamped}
use Rattle.h1_greeting.proofs.StampLemmas.{all_stamped}
use Rattle.h1_greeting.proofs.stamp.greet_stamped.Goals as goal

abbrev stamp_chain : List (HeadModule Stamp) → Chain (HeadModule Stamp)
stamp_chain stamps = head_chain (λ stamp head. Ok head) (λ stamp header. Ok (stamped header)) stamps

pub returns-clause-agrees : goal.returns-clause-agrees
returns-clause-agrees c =
    subst (λ (stamps : List (HeadModule Stamp)). IfOk c.serve.result (λ served.
    Agrees (rules_with Greeting (stamp_chain stamps)) (terms_of None false) new_mem_state.state
    served.session.link.state (entries served)))
    (ap (λ s. s.modules) c.in_ok-add_module.ensures.ok
    ∙ ap (placed (λ (m : HeadModule Stamp). m.order) _) c.new_app-server.ensures.modules
    ∙ ap (λ m. m ∷ []) c.new.ensures)
    c.serve.ensures.agrees

pub returns-clause-stamped : goal.returns-clause-stamped
returns-clause-stamped c =
    IfOk-weaker c.serve.result _ _ (λ served agrees. all_stamped (entries served) agrees.allowed)
    (returns-clause-agrees c)
