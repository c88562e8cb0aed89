use Rattle.std.proofs.Common.{◌≡◌, ◌++◌}
use Rattle.percent_encoding.specs.Iter.{encoded_text}
use Rattle.percent_encoding.specs.Percent.{percent_encode}
use Rattle.h1_escape.specs.declared.escape.TheConstants.{ILLEGAL}
use Rattle.h1_escape.proofs.escape.with_target_escaped.Given as goal

abbrev pub invariant-loop-piece : goal.invariant-loop-piece
invariant-loop-piece l =
    l.head.items ++ encoded_text l.piece-iterator ≡ l.fn.front ++ percent_encode ILLEGAL l.fn.target
