-- What is kept for the second is its date.
use Rattle.h1_head.specs.Date.{IsDateAt}
use Rattle.h1_head.proofs.date.CacheableDate.get_date.Goals as goal

-- src/date.rt:63:5
pub returns-clause-date : goal.returns-clause-date
returns-clause-date c =
    let held : IsDateAt c.self.inside.second c.self.inside.text = c.self.invariant in
    rw (← c.update.ensures, ← c.self.view_is) held
