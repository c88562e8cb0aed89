-- Polls of a connection, one after the other, that each waited for their budget.
use Rattle.std.specs.Prelude.{◌≡◌, ℕ, List, [], ◌∷◌, Some}
use Rattle.h1_link.specs.LinkState.{LinkState}
use Rattle.h1_link.specs.Later.{Later}
use Rattle.h1_transcript.specs.Told.{ToldGrowth}
use Rattle.h1_transfer.specs.declared.budget.TheConstants.{CALL_BUDGET}

-- the link tells its bytes: these were given and these written
abbrev pub Tells : LinkState → List ℕ → List ℕ → Type 0
Tells link given written = (link.given ≡ Some given) × (link.written ≡ Some written)

-- each state of the link follows on the one before by a poll that waited for its budget
abbrev pub AreSpent : LinkState → List LinkState → Type 0
AreSpent old [] = Unit {0}
AreSpent old (now ∷ more) =
    Later old now × ToldGrowth old.given now.given old.written now.written CALL_BUDGET × AreSpent now more

-- the link's state after the last poll
abbrev pub state_behind : LinkState → List LinkState → LinkState
state_behind old [] = old
state_behind old (now ∷ more) = state_behind now more
