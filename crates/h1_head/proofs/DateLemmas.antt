-- The text of a second.
use Rattle.std.proofs.Common.{◌≡◌, ℕ, List, sym, ap, ◌∙◌}
use Rattle.httpdate.specs.Text.{imf_fixdate}
use Rattle.httpdate.proofs.Theorems.{unix_secs_injective}
use Rattle.h1_head.specs.Date.{IsDateAt}

-- a second has one text
pub date_unique : (secs : ℕ) (text other : List ℕ) → IsDateAt secs text → IsDateAt secs other
    → text ≡ other
date_unique secs text other one two =
    one.2 ∙ ap imf_fixdate (unix_secs_injective one.0 two.0 (one.1 ∙ sym two.1)) ∙ sym two.2
