-- The method, target and version of an illegal request line (RFC 9112, section 3).
use Rattle.std.specs.Prelude.{ℕ, ◌+◌, Bool, false, ◌&&◌, ◌||◌, Option, Some, None, List, [], ◌∷◌, drop, nat_eq, nat_lt, ◌==◌, if◌then◌else◌, codes}
use Rattle.std.specs.Char.{is_ascii_alphanumeric, is_ascii_digit}
use Rattle.std.specs.List.{starts_with}

-- a letter, a digit or an underscore
abbrev pub is_word_byte : ℕ → Bool
is_word_byte b = is_ascii_alphanumeric b || b == 95

-- the place after one or more such bytes and one space, where `at` of them are before
abbrev pub start_from : ℕ → List ℕ → Option ℕ
start_from at [] = None
start_from at (b ∷ bytes) =
    if is_word_byte b
    then start_from (at + 1) bytes
    else (if nat_lt 0 at && b == 32 then Some (at + 1) else None)

-- where the target of the head begins
abbrev pub target_start : List ℕ → Option ℕ
target_start head = start_from 0 head

-- the bytes begin with a digit
abbrev pub begins_with_digit : List ℕ → Bool
begins_with_digit [] = false
begins_with_digit (b ∷ bytes) = is_ascii_digit b

-- the bytes begin with a space, `HTTP/` and a digit
abbrev pub is_mark : List ℕ → Bool
is_mark bytes = starts_with nat_eq bytes (codes " HTTP/") && begins_with_digit (drop 6 bytes)

-- the place of a mark, if one is here, or else of the last one before
abbrev pub later_mark : Option ℕ → ℕ → List ℕ → Option ℕ
later_mark found at left = if is_mark left then Some at else found

-- the last place on the line at which a mark stands, where `at` bytes are before
abbrev pub last_mark : Option ℕ → ℕ → List ℕ → Option ℕ
last_mark found at [] = found
last_mark found at (b ∷ bytes) =
    if b == 10 then found else last_mark (later_mark found at (b ∷ bytes)) (at + 1) bytes

-- how many bytes at the start are the target, which has one byte or more
abbrev pub target_len : List ℕ → Option ℕ
target_len [] = None
target_len (b ∷ bytes) = if b == 10 then None else last_mark None 1 bytes
