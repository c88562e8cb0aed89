-- Values that are dates (RFC 9110, section 5.6.7).
use Rattle.std.specs.Prelude.{◌≡◌, ℕ, List, IsAscii, Option, None, Some, Result, Ok, Err}
use Rattle.std.specs.Str.{trim}
use Rattle.httpdate.specs.Date.{IsDateText, unix_secs}
use Rattle.httpdate.specs.declared.date.HttpDate.{HttpDate as Date}
use Rattle.h1_error.specs.declared.error.Error.{Error}
use Rattle.h1_error.specs.declared.head_fault.HeadFault.TheVariants.{BadDate}
use Rattle.h1_head.specs.Faults.{refusal}

-- the value is this date, in one of the three formats, perhaps with white space round it
abbrev pub IsDate : List ℕ → Date → Type 0
IsDate value date = IsAscii value × IsDateText (trim value) date

-- what the value of a line is read as: a date, or the refusal of one that is none
abbrev pub IsReadAs : List ℕ → Result (Option Date) Error → Type 0
IsReadAs value (Ok None) = ⊥
IsReadAs value (Ok (Some date)) = IsDate value date
IsReadAs value (Err error) =
    (error ≡ refusal BadDate) × ((date : Date) → ¬ (IsDate value date))

-- the same where there may be no such line, which is no date and no error
abbrev pub IsDateOf : Option (List ℕ) → Result (Option Date) Error → Type 0
IsDateOf None result = result ≡ Ok None
IsDateOf (Some value) result = IsReadAs value result

-- the second that the first value is, where there is one and it is a date
abbrev pub IsSecondOf : Option (List ℕ) → Option ℕ → Type 0
IsSecondOf None second = second ≡ None
IsSecondOf (Some value) None = (date : Date) → ¬ (IsDate value date)
IsSecondOf (Some value) (Some second) =
    (date : Date) × IsDate value date × (unix_secs date ≡ second)
