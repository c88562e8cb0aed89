use Rattle.h1_app.specs.Filtering.{chain_of, rules_with}
use Rattle.h1_app.specs.View.{served_by}
use Rattle.h1_greeting.specs.Greeting.{Greeting}
use Rattle.h1_greeting.proofs.ServedLemmas.{IsServed}
use Rattle.h1_greeting.proofs.serving.serve.Given as goal

abbrev pub invariant-loop : goal.invariant-loop
invariant-loop g l =
    IsServed (λ server. rules_with Greeting
    (chain_of g.B.HttpModuleBuilder g.B.Module.HttpModule server.builders))
    (served_by l.fn.server.app l.fn.server.modules) l.fn.given l.counter l.connection
