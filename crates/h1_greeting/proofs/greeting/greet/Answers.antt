-- A server without modules sends what the application gives.
use Rattle.std.proofs.Common.{List, IfOk, None, subst, false}
use Rattle.std.proofs.lemmas.Result.{IfOk-weaker}
use Rattle.h1_link.specs.MemState.{new_mem_state}
use Rattle.h1_modules.specs.declared.no_modules.NoModules.{NoModules}
use Rattle.h1_transcript.specs.Agrees.{Agrees}
use Rattle.h1_app.specs.Filtering.{rules_with}
use Rattle.h1_app.specs.NoModulesLaw.{no_chain}
use Rattle.h1_app.specs.View.{entries, terms_of}
use Rattle.h1_greeting.specs.Greeting.{Greeting}
use Rattle.h1_greeting.proofs.GreetingLemmas.{all_greeted}
use Rattle.h1_greeting.proofs.greeting.greet.Goals as goal

pub returns-clause-agrees : goal.returns-clause-agrees
returns-clause-agrees c =
    subst (λ (builders : List NoModules). IfOk c.serve.result (λ served.
    Agrees (rules_with Greeting (no_chain builders)) (terms_of None false) new_mem_state.state
    served.session.link.state (entries served))) c.new_app.ensures.modules c.serve.ensures.agrees

pub returns-clause-greeted : goal.returns-clause-greeted
returns-clause-greeted c =
    IfOk-weaker c.serve.result _ _ (λ served agrees. all_greeted (entries served) agrees.allowed)
    (returns-clause-agrees c)
