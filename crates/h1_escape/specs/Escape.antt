-- The escape of an illegal request line (RFC 9112, section 3.2; RFC 3986, section 2.1).
use Rattle.std.specs.Prelude.{ℕ, ◌+◌, ◌/◌, ◌%◌, Bool, false, ◌||◌, Option, Some, None, option_and_then, List, [], ◌∷◌, ◌++◌, take, drop, nat_lt, nat_le, ◌==◌, if◌then◌else◌}
use Rattle.std.specs.List.{flat_map}
use Rattle.h1_escape.specs.Target.{target_len, target_start}

-- no target may have the byte: up to a space, `"`, `<`, `>`, DEL, or outside of ASCII
abbrev pub is_illegal : ℕ → Bool
is_illegal b = nat_le b 32 || b == 34 || b == 60 || b == 62 || nat_le 127 b

-- a hexadecimal digit in upper case
abbrev pub hex_digit : ℕ → ℕ
hex_digit value = if nat_lt value 10 then 48 + value else 55 + value

-- pct-encoded = "%" HEXDIG HEXDIG, for an illegal byte; any other stays
abbrev pub escaped_byte : ℕ → List ℕ
escaped_byte b =
    if is_illegal b then 37 ∷ hex_digit (b / 16) ∷ hex_digit (b % 16) ∷ [] else b ∷ []

abbrev pub escaped : List ℕ → List ℕ
escaped bytes = flat_map escaped_byte bytes

-- some byte is illegal
abbrev pub has_illegal : List ℕ → Bool
has_illegal [] = false
has_illegal (b ∷ bytes) = is_illegal b || has_illegal bytes

-- the head whose target has its illegal bytes escaped; none where it has no illegal byte
abbrev pub escaped_at : ℕ → ℕ → List ℕ → Option (List ℕ)
escaped_at start len head =
    let target = take len (drop start head) in
    if has_illegal target
    then Some (take start head ++ escaped target ++ drop (start + len) head)
    else None

-- the escape of a head; none where the first line has no method, target and version
abbrev pub esc : List ℕ → Option (List ℕ)
esc head =
    option_and_then
    (λ start. option_and_then (λ len. escaped_at start len head) (target_len (drop start head)))
    (target_start head)
