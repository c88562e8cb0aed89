-- authority = [ userinfo "@" ] host [ ":" port ] (RFC 3986, section 3.2)
use Rattle.std.specs.Prelude.{ℕ, ◌+◌, ◌*◌, ◌^◌, Bool, not, ◌||◌, ◌&&◌, ◌==◌, nat_lt, nat_le, if◌then◌else◌, List, [], ◌∷◌, take, drop, codes, count_by, position, Option, Some, None}
use Rattle.std.specs.List.{list_any, list_all, position_or_len}
use Rattle.std.specs.Char.{is_ascii_alphanumeric, digit_value}
use Rattle.h1_authority.specs.Bytes.{is_bracket}
use Rattle.h1_authority.specs.declared.parsed_authority.ParsedAuthority.{ParsedAuthority}

pub record Authority : Type 0 where
  pub host : List ℕ
  pub port : Option ℕ

-- the authority that a value of the program stands for
abbrev pub parsed_as : ParsedAuthority → Authority
parsed_as p = record { host = p.host.now; port = p.port }

-- what may stand in an authority
abbrev pub is_authority_byte : ℕ → Bool
is_authority_byte b =
    is_ascii_alphanumeric b || list_any (λ c. c == b) (codes "-._~!$&'()*+,;=:@[]%")

-- what stands after the last `@`, or `rest` where there is none
abbrev pub behind_userinfo_from : List ℕ → List ℕ → List ℕ
behind_userinfo_from rest [] = rest
behind_userinfo_from rest (b ∷ bytes) = behind_userinfo_from (if b == 64 then bytes else rest) bytes

-- the authority without its userinfo
abbrev pub behind_userinfo : List ℕ → List ℕ
behind_userinfo authority = behind_userinfo_from authority authority

-- the number with one digit more, if it is one and the number stays at most 65,535
abbrev pub with_digit : ℕ → ℕ → Option ℕ
with_digit n b =
    if nat_lt (digit_value b) 10 && nat_lt (n * 10 + digit_value b) (2 ^ 16)
    then Some (n * 10 + digit_value b)
    else None

-- the number that digits write after those of n
abbrev pub port_from : Option ℕ → List ℕ → Option ℕ
port_from None bytes = None
port_from (Some n) [] = Some n
port_from (Some n) (b ∷ bytes) = port_from (with_digit n b) bytes

-- one digit or more
abbrev pub port_of_digits : List ℕ → Option ℕ
port_of_digits [] = None
port_of_digits (b ∷ bytes) = port_from (Some 0) (b ∷ bytes)

-- a `+` may stand before them
abbrev pub port_of : List ℕ → Option ℕ
port_of [] = None
port_of (b ∷ bytes) = if b == 43 then port_of_digits bytes else port_of_digits (b ∷ bytes)

-- `[`, `]` and `%`, which stand in no name and no text of a port
abbrev pub is_bracket_or_percent : ℕ → Bool
is_bracket_or_percent b = is_bracket b || b == 37

abbrev pub is_name : List ℕ → Bool
is_name bytes = not (list_any is_bracket_or_percent bytes)

abbrev pub is_port_text : List ℕ → Bool
is_port_text bytes = is_name bytes && not (list_any (λ b. b == 58) bytes)

-- what stands between the brackets: no bracket, and at most eight colons
abbrev pub is_literal : List ℕ → Bool
is_literal bytes = not (list_any is_bracket bytes) && nat_le (count_by (λ b. b == 58) bytes) 8

-- a host, and after it nothing, or a colon and the text of a port
abbrev pub with_port : List ℕ → List ℕ → Option Authority
with_port host [] = Some (record { host = host; port = None })
with_port host (b ∷ text) =
    if b == 58 && is_port_text text
    then Some (record { host = host; port = port_of text })
    else None

-- after a leading `[`, with the place of the first `]`
abbrev pub bracketed_at : List ℕ → Option ℕ → Option Authority
bracketed_at rest None = None
bracketed_at rest (Some end) =
    if is_literal (drop 1 (take end rest))
    then with_port (take (end + 1) rest) (drop (end + 1) rest)
    else None

-- without a leading `[`: the host ends before the first colon
abbrev pub named : List ℕ → Option Authority
named rest =
    let end = position_or_len (λ b. b == 58) rest in
    if is_name (take end rest) then with_port (take end rest) (drop end rest) else None

abbrev pub host_and_port : List ℕ → Option Authority
host_and_port [] = None
host_and_port (b ∷ bytes) =
    if b == 91
    then bracketed_at (b ∷ bytes) (position (λ c. c == 93) (b ∷ bytes))
    else named (b ∷ bytes)

abbrev pub parse_authority : List ℕ → Option Authority
parse_authority bytes =
    if list_all is_authority_byte bytes then host_and_port (behind_userinfo bytes) else None
