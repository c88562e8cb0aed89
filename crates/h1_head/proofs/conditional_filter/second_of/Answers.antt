use Rattle.std.proofs.Common.{sym}
use Rattle.h1_head.proofs.conditional_filter.second_of.Goals as goal

pub returns-in-Some-read_date : goal.returns-in-Some-read_date
returns-in-Some-read_date c =
    rw c.in-Some.is
    (c.in-Some-read_date.date, c.in-Some-read_date.ensures, sym c.unix_secs.ensures.value)
