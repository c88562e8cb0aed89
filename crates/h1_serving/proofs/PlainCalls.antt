-- What a call gives where no module refuses and the application is never waited for.
use Rattle.std.proofs.Common.{◌⊎◌, ◌<◌, ◌≤◌, ℕ, inl, inr, arith}
use Rattle.std.proofs.lemmas.Bool.{cases_lt}
use Rattle.h1_error.specs.declared.progress.Progress.{Progress}
use Rattle.h1_error.specs.declared.progress.Progress.TheVariants as progress
use Rattle.h1_error.specs.declared.progress.Waiting.{Waiting}
use Rattle.h1_error.specs.declared.progress.Waiting.TheVariants as waiting
use Rattle.h1_link.specs.LinkState.{LinkState}
use Rattle.h1_transcript.specs.Agrees.{Agrees}
use Rattle.h1_transcript.specs.Begun.{Terms}
use Rattle.h1_transcript.proofs.PlainLemmas.{plain_agrees, plain_cause}
use Rattle.h1_transcript.specs.Rules.{ArePlain, Rules, plain}
use Rattle.h1_app.specs.declared.exchange.Stage.{Stage}
use Rattle.h1_app.specs.declared.exchange.Stage.TheVariants as stage
use Rattle.h1_app.specs.Filtering.{filters_of, rules_with}
use Rattle.h1_app.specs.NoModulesLaw.{no_chain, none_plain}
use Rattle.h1_app.specs.View.{View, entries}
use Rattle.h1_echo.specs.Echo.{EchoGives}
use Rattle.h1_echo.specs.declared.echo.EchoJob.{EchoJob}
use Rattle.h1_serving.specs.Served.{EchoedView, AnswersBy, AnswersFor, PendedLast, Waited, WaitedBy, WaitsFor}

-- an application whose count never rises is never waited for
never_last : {J : Type 0} (to : Stage J) → PendedLast (λ (job : J). 0) to → ⊥
never_last (stage.Answer job) p = omega (arith, p.1)
never_last _ p = p

never_waited : {J : Type 0} (polls : ℕ) (old now : LinkState)
    → WaitedBy (λ (job : J). 0) polls old now → Waited 0 polls old now
never_waited {J} polls old now (apps, w, some) = by (cases_lt 0 apps) where
  by : (0 < apps) ⊎ (apps ≤ 0) → Waited 0 polls old now
  by (inl more) = let p = (some more).1.1 in absurd (omega (arith, p))
  by (inr none) = record {
    reads = w.reads;
    writes = w.writes;
    budgets = w.budgets;
    all = omega (arith, w.all, none);
    reads_rose = w.reads_rose;
    writes_rose = w.writes_rose;
    moves_rose = w.moves_rose;
    moved = w.moved;
  }

never_waits_for : {L C A J : Type 0} (before old now : LinkState) (to : View L C A J)
    (what : Waiting)
    → WaitsFor (PendedLast (λ (job : J). 0) to.stage) before old now to.done to.last what
    → WaitsFor ⊥ before old now to.done to.last what
never_waits_for before old now to waiting.Read h = h
never_waits_for before old now to waiting.Write h = h
never_waits_for before old now to waiting.App h = never_last to.stage h
never_waits_for before old now to waiting.Budget h = h

pub plain_answers : {L C A J : Type 0} (rules : Rules) → ArePlain rules.filters
    → (state : L → LinkState) (polls : ℕ) (before old : LinkState) (to : View L C A J)
    (answer : Progress)
    → AnswersBy rules.filters state (λ (job : J). 0) polls before old to answer
    → AnswersFor state polls before old to answer
plain_answers rules none state polls before old to (progress.Pending what) h = (
  h.0,
  never_waited polls old (state to.session.link) h.1,
  never_waits_for before old (state to.session.link) to what h.2,
)
plain_answers rules none state polls before old to (progress.Ready reason) h =
    (h.0, plain_cause rules none before old (state to.session.link) to.done to.last reason h.1)

-- the echo application without modules is such a one
pub echoed_answers : {L : Type 0} (state : L → LinkState) (polls : ℕ) (before old : LinkState)
    (to : EchoedView L) (answer : Progress)
    → AnswersBy (filters_of (no_chain to.served.builders)) state (λ (job : EchoJob). 0) polls before
    old to answer
    → AnswersFor state polls before old to answer
echoed_answers state polls before old to answer h =
    plain_answers (rules_with EchoGives (no_chain to.served.builders))
    (none_plain to.served.builders) state polls before old to answer h

pub echoed_agrees : {L : Type 0} (terms : Terms) (before now : LinkState) (to : EchoedView L)
    → Agrees (rules_with EchoGives (no_chain to.served.builders)) terms before now (entries to)
    → Agrees (plain EchoGives) terms before now (entries to)
echoed_agrees terms before now to h =
    plain_agrees (rules_with EchoGives (no_chain to.served.builders))
    (none_plain to.served.builders) terms before now (entries to) h
