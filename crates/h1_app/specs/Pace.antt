-- How many steps may follow: where each stage stands in an exchange, and in a round.
use Rattle.std.specs.Prelude.{ℕ, ◌+◌, ◌*◌, Option, Some, None}
use Rattle.h1_app.specs.Words.{Stage}
use Rattle.h1_app.specs.declared.exchange.Stage.TheVariants as stage

-- how far an exchange is from its end
abbrev pub rank : {J : Type 0} → Stage J → ℕ
rank stage.Head = 8
rank (stage.Answer job) = 7
rank stage.TakeHeader = 6
rank stage.Header = 5
rank stage.TakeBody = 4
rank stage.Body = 3
rank stage.Finish = 2
rank stage.Drain = 1
rank stage.Next = 0

-- The stages in the order of a round: from a header that is being written through the end of its
-- exchange into the next one, up to its header. Every step lowers this, but the one that closes the
-- round, and that one spends budget.
abbrev pub place : {J : Type 0} → Stage J → ℕ
place stage.Header = 9
place stage.TakeBody = 8
place stage.Body = 7
place stage.Finish = 6
place stage.Drain = 5
place stage.Next = 4
place stage.Head = 3
place (stage.Answer job) = 2
place stage.TakeHeader = 1

-- how many steps may follow in a poll at most
abbrev pub ahead : {J : Type 0} → Option ℕ → Stage J → ℕ
ahead None at = place at
ahead (Some left) at = 10 * left + place at
