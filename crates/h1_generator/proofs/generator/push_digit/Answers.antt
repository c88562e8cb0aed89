use Rattle.std.proofs.Common.{arith}
use Rattle.std.proofs.lemmas.Fmt.{decimal_digit}
use Rattle.h1_generator.proofs.generator.push_digit.Goals as goal

pub returns-clause-ok : goal.returns-clause-ok
returns-clause-ok c = rw (decimal_digit c.args.number (omega arith)) c.in_ok-push.ensures.items
