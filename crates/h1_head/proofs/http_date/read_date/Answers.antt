-- what is no text has a byte that isn't ASCII
use Rattle.std.proofs.lemmas.Str.{IsUtf8-from_ascii}
use Rattle.h1_head.proofs.http_date.read_date.Goals as goal

pub returns-in_default : goal.returns-in_default
returns-in_default c = λ date h. c.in_default.ensures.cases.0 (IsUtf8-from_ascii _ h.0)
