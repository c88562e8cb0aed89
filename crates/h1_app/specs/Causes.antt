-- When each answer of a poll comes.
use Rattle.std.specs.Prelude.{◌≡◌, ℕ, ◌+◌, ◌<◌, ◌≤◌, List, length, true, Some, None}
use Rattle.h1_app.specs.Words.{Waiting, Progress, LinkState, Rose, RoseBy, raised, Entry, Stage, ToldGrowth, replies, LacksSo, OfLast, EndsBy, Filters}
use Rattle.h1_error.specs.declared.progress.Waiting.TheVariants as waiting
use Rattle.h1_error.specs.declared.progress.Progress.TheVariants as progress
use Rattle.h1_app.specs.declared.exchange.Stage.TheVariants as stage
use Rattle.h1_transfer.specs.declared.budget.TheConstants.{CALL_BUDGET}
use Rattle.h1_app.specs.View.{View, entries}

-- a job that began in this poll was not ready by itself: its count rose by one since it began
abbrev pub PendedNew : {J : Type 0} → (J → Type 0) → (J → ℕ) → Stage J → Type 0
PendedNew {J} begins pends (stage.Answer job) =
    (before : J) × begins before × (pends job ≡ raised (pends before) 1)
PendedNew begins pends _ = ⊥

-- the same of the job that was there before the poll, or, where a head was awaited then, of one that
-- began in it
abbrev pub PendedOn : {J : Type 0} → (J → Type 0) → (J → ℕ) → Stage J → Stage J → Type 0
PendedOn begins pends (stage.Answer before) (stage.Answer job) =
    pends job ≡ raised (pends before) 1
PendedOn begins pends stage.Head to = PendedNew begins pends to
PendedOn begins pends _ _ = ⊥

-- the application was not ready by itself: with the exchange that was last, or with one that began
-- in this poll; what has ended stays so
pub record PendedBy {J : Type 0} (begins : J → Type 0) (pends : J → ℕ) (from to : List Entry)
    (before now : Stage J) : Type 0 where
  pub longer : length from ≤ length to
  pub same : length to ≡ length from → PendedOn begins pends before now
  pub later : length from < length to → PendedNew begins pends now

-- when a poll waits
abbrev pub WaitCause : {L C A J : Type 0} → (J → Type 0) → (J → ℕ) → LinkState → LinkState
    → LinkState → View L C A J → View L C A J → Waiting → Type 0
WaitCause begins pends before old now from to waiting.Read = Rose old.read_waits now.read_waits
    × LacksSo before now to.done to.last
WaitCause begins pends before old now from to waiting.Write = Rose old.write_waits now.write_waits
    × OfLast to.last (λ e. e.owed ≡ true)
WaitCause begins pends before old now from to waiting.App =
    (now.read_waits + replies (entries from) ≤ old.read_waits + replies (entries to))
    × PendedBy begins pends from.done to.done from.stage to.stage
WaitCause begins pends before old now from to waiting.Budget = RoseBy CALL_BUDGET old.moves now.moves
    × ToldGrowth old.given now.given old.written now.written CALL_BUDGET

-- when each answer of a poll comes; `before` is the link's state since which bytes count
abbrev pub Cause : {L C A J : Type 0} → Filters → (L → LinkState) → (J → Type 0) → (J → ℕ)
    → LinkState → View L C A J → View L C A J → Progress → Type 0
Cause filters state begins pends before from to (progress.Pending what) =
    (to.end ≡ None)
    × WaitCause begins pends before (state from.session.link) (state to.session.link) from to what
Cause filters state begins pends before from to (progress.Ready reason) =
    (to.end ≡ Some reason)
    × EndsBy filters before (state from.session.link) (state to.session.link) to.done to.last reason
