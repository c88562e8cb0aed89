-- Numbers of a script: decimal digits without sign, of which zeros may lead.
use Rattle.std.specs.Prelude.{◌≡◌, ◌≤◌, ℕ, ◌+◌, ◌*◌, ◌&&◌, nat_lt, nat_le, if◌then◌else◌, List, [], ◌∷◌, length, Option, Some, None}
use Rattle.std.specs.Char.{digit_value}
use Rattle.std.specs.Str.Parse.{IsNumeral, digits_value}
use Rattle.h1_words.specs.declared.number.TheConstants.{MAX_DIGITS}

-- the number with one digit more, if it is one and the number stays at most `most`
abbrev pub with_digit : ℕ → ℕ → ℕ → Option ℕ
with_digit most n b =
    if nat_lt (digit_value b) 10 && nat_le (n * 10 + digit_value b) most
    then Some (n * 10 + digit_value b)
    else None

-- the number that digits write after those of n
abbrev pub number_from : ℕ → Option ℕ → List ℕ → Option ℕ
number_from most None digits = None
number_from most (Some n) [] = Some n
number_from most (Some n) (b ∷ digits) = number_from most (with_digit most n b) digits

-- the number that 1 to 20 digits write, if it is at most `most`
abbrev pub number_up_to : ℕ → List ℕ → Option ℕ
number_up_to most digits =
    if nat_lt 0 (length digits) && nat_le (length digits) MAX_DIGITS
    then number_from most (Some 0) digits
    else None

-- 1 to 20 digits that write a number of at most `most`
pub record IsNumber (most : ℕ) (digits : List ℕ) (number : ℕ) : Type 0 where
  pub numeral : IsNumeral 10 digits
  pub short : length digits ≤ MAX_DIGITS
  pub value : digits_value 10 digits ≡ number
  pub within : number ≤ most
