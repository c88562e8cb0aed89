-- The bytes of a chunk as it is written (RFC 9112, section 7.1).
use Rattle.std.specs.Prelude.{ℕ, ◌+◌, nat_lt, List, [], ◌∷◌, ◌++◌, length, map, if◌then◌else◌}
use Rattle.std.specs.Int.Digits.{digits_of}

abbrev pub upper_digit : ℕ → ℕ
upper_digit digit = if nat_lt digit 10 then 48 + digit else 55 + digit

-- chunk-size in upper case, with no zeros in front
unfoldable pub size_digits : ℕ → List ℕ
size_digits size = map upper_digit (digits_of 16 size)

abbrev pub size_line : ℕ → List ℕ
size_line size = size_digits size ++ 13 ∷ 10 ∷ []

-- chunk = chunk-size CRLF chunk-data CRLF
abbrev pub chunk_bytes : List ℕ → List ℕ
chunk_bytes [] = []
chunk_bytes (b ∷ payload) = size_line (length (b ∷ payload)) ++ (b ∷ payload) ++ 13 ∷ 10 ∷ []

-- last-chunk = 1*"0" CRLF, and the empty line after it
abbrev pub last_chunk : List ℕ
last_chunk = 48 ∷ 13 ∷ 10 ∷ 13 ∷ 10 ∷ []
