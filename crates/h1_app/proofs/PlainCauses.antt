-- Why a poll of a connection whose modules change nothing answers: no module refuses.
use Rattle.std.proofs.Common.{◌≡◌, ℕ, None, Some}
use Rattle.h1_error.specs.declared.progress.Progress.TheVariants as progress
use Rattle.h1_transcript.proofs.PlainLemmas.{plain_cause}
use Rattle.h1_app.specs.Words.{ArePlain, EndCause, LinkState, Progress, Rules}
use Rattle.h1_app.proofs.Words.{Cause, View, WaitCause}

-- when each answer of a poll comes where no module refuses
abbrev pub PlainCause : {L C A J : Type 0} → (L → LinkState) → (J → Type 0) → (J → ℕ) → LinkState
    → View L C A J → View L C A J → Progress → Type 0
PlainCause state begins pends before from to (progress.Pending what) =
    (to.end ≡ None)
    × WaitCause begins pends before (state from.session.link) (state to.session.link) from to what
PlainCause state begins pends before from to (progress.Ready reason) =
    (to.end ≡ Some reason)
    × EndCause before (state from.session.link) (state to.session.link) to.done to.last reason

pub cause_plain : {L C A J : Type 0} (rules : Rules) → ArePlain rules.filters
    → (state : L → LinkState) (begins : J → Type 0) (pends : J → ℕ) (before : LinkState)
    (from to : View L C A J) (answer : Progress)
    → Cause rules.filters state begins pends before from to answer
    → PlainCause state begins pends before from to answer
cause_plain rules none state begins pends before from to (progress.Pending what) h = h
cause_plain rules none state begins pends before from to (progress.Ready reason) h = (
  h.0,
  plain_cause rules none before (state from.session.link) (state to.session.link) to.done
      to.last reason h.1,
)
