use Rattle.std.proofs.Common.{◌∙◌, arith}
use Rattle.h1_escape.proofs.EscapeLemmas.{illegal_from_set}
use Rattle.h1_escape.proofs.escape.is_illegal.Goals as goal

pub returns : goal.returns
returns c = c.should_percent_encode.ensures ∙ illegal_from_set c.args.byte (omega arith)
