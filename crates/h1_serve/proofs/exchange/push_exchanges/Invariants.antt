use Rattle.std.proofs.Common.{◌≡◌, ◌++◌, take}
use Rattle.h1_serve.specs.ExchangeText.{exchanges_lines}
use Rattle.h1_serve.proofs.exchange.push_exchanges.Given as goal

abbrev pub invariant-loop-entry : goal.invariant-loop-entry
invariant-loop-entry l = l.text ≡ l.fn.text ++ exchanges_lines (take l.entry-index l.exchanges)
