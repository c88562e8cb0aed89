-- What a connection that says hello is made with, and what comes of it.
use Rattle.std.specs.Prelude.{ℕ, Some, false}
use Rattle.h1_error.specs.declared.progress.Progress.{Progress}
use Rattle.h1_link.specs.MemState.{MemState, new_mem_state}
use Rattle.h1_transcript.specs.Begun.{Terms}
use Rattle.h1_transcript.specs.Rules.{Filters}
use Rattle.h1_transcript.specs.declared.history.History.TheVariants.{Forgotten}
use Rattle.h1_app.specs.View.{View, entries, unlimited}
use Rattle.h1_serving.specs.Served.{AnswersBy, LeavesByPolls}
use Rattle.h1_serving.specs.declared.serving.TheConstants.{MOST_POLLS}
use Rattle.h1_hello.specs.declared.server.TheConstants.{REQUEST_LIMIT}

-- so many requests may follow the first, no exchange is kept, and no body is gathered
abbrev pub hello_terms : Terms
hello_terms = record { limit = Some REQUEST_LIMIT; holding = unlimited Forgotten false }

-- A connection over a new link was served by one call: so many polls were made, which left the link
-- so, and the answer has its cause. It ended, or each of its polls waited for its budget alone, where
-- neither its link nor its application is ever waited for.
pub record IsServed {C A J : Type 0} (filters : Filters) (pends : J → ℕ)
    (served : View MemState C A J) : Type 0 where
  pub asked : ℕ
  pub answer : Progress
  pub leaves : LeavesByPolls MOST_POLLS 0 asked new_mem_state.state served.session.link.state
      (entries served) served.end answer
  pub answers : AnswersBy filters (λ link. link.state) pends MOST_POLLS new_mem_state.state
      new_mem_state.state served answer
