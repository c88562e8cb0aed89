-- How far a connection was polled.
use Rattle.std.specs.Prelude.{ℕ, ◌*◌, ◌≤◌, Option, Some, None}
use Rattle.h1_error.specs.declared.progress.End.{End}
use Rattle.h1_link.specs.LinkState.{LinkState}

-- it ended, or in each of so many polls 64 calls of its link moved bytes
abbrev pub Polled : ℕ → Option End → LinkState → Type 0
Polled polls (Some end) link = Unit {0}
Polled polls None link = 64 * polls ≤ link.moves
