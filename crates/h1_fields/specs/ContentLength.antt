-- The length that Content-Length lines state (RFC 9110, section 8.6).
use Rattle.std.specs.Prelude.{ℕ, ◌+◌, ◌*◌, ◌^◌, ◌<◌, ◌≡◌, ◌&&◌, ◌==◌, nat_lt, List, [], ◌∷◌, Option, None, Some, if◌then◌else◌, codes}
use Rattle.std.specs.Char.{digit_value}
use Rattle.std.specs.Str.Parse.{IsNumeral, digits_value}
use Rattle.h1_fields.specs.declared.content_length.ContentLength.{ContentLength}
use Rattle.h1_fields.specs.declared.content_length.ContentLength.TheVariants as stated
use Rattle.h1_fields.specs.Lines.{Line}
use Rattle.h1_fields.specs.ListParts.{parts_of}

-- the number that the digits write after those of n, below 2 ^ 64
abbrev pub number_from : ℕ → List ℕ → Option ℕ
number_from n [] = Some n
number_from n (b ∷ bytes) =
    let more = n * 10 + digit_value b in
    if nat_lt (digit_value b) 10 && nat_lt more (2 ^ 64) then number_from more bytes else None

-- 1*DIGIT
abbrev pub number : List ℕ → Option ℕ
number [] = None
number (b ∷ bytes) = number_from 0 (b ∷ bytes)

-- what is known with one number more
abbrev pub with_number : ContentLength → Option ℕ → ContentLength
with_number stated.Bad next = stated.Bad
with_number stated.Absent None = stated.Bad
with_number stated.Absent (Some n) = stated.Number n
with_number (stated.Number m) None = stated.Bad
with_number (stated.Number m) (Some n) = if m == n then stated.Number m else stated.Bad

-- what is known after these parts
abbrev pub agreed : ContentLength → List (List ℕ) → ContentLength
agreed found [] = found
agreed found (part ∷ parts) = agreed (with_number found (number part)) parts

-- all parts of all lines are the same number
abbrev pub content_length : List Line → ContentLength
content_length lines = agreed stated.Absent (parts_of (codes "Content-Length") lines)

-- a part that writes the number n
abbrev pub IsNumber : ℕ → List ℕ → Type 0
IsNumber n part = IsNumeral 10 part × (digits_value 10 part ≡ n) × (n < 2 ^ 64)
