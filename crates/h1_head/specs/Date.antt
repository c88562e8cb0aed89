-- The value of a Date field (RFC 9110, section 6.6.1).
use Rattle.std.specs.Prelude.{◌≡◌, ℕ, List}
use Rattle.httpdate.specs.declared.date.HttpDate.{HttpDate}
use Rattle.httpdate.specs.Date.{unix_secs, date_text}

-- the text is the IMF-fixdate of this second since 1970
abbrev pub IsDateAt : ℕ → List ℕ → Type 0
IsDateAt secs text = (date : HttpDate) × (unix_secs date ≡ secs) × (text ≡ date_text date)
