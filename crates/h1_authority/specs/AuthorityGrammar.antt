-- The grammar that a parsed authority follows (RFC 3986, section 3.2).
use Rattle.std.specs.Prelude.{◌≡◌, ℕ, ◌<◌, ◌^◌, ◌⊎◌, List, [], ◌∷◌, ◌++◌, length, IsTrue, IsFalse, Option, None}
use Rattle.std.specs.List.{list_all}
use Rattle.std.specs.Str.Parse.{IsNumeral, digits_value, without_leading_plus}
use Rattle.h1_authority.specs.Bytes.{has_userinfo}
use Rattle.h1_authority.specs.ParsedAuthority.{Authority, is_authority_byte, is_port_text, is_literal, port_of}

-- digits, perhaps after one `+`, that write a number of at most 65,535
pub record IsPort (text : List ℕ) (port : ℕ) : Type 0 where
  pub digits : IsNumeral 10 (without_leading_plus text)
  pub value : digits_value 10 (without_leading_plus text) ≡ port
  pub small : port < 2 ^ 16

-- [ userinfo "@" ]
abbrev pub IsUserinfoPart : List ℕ → Type 0
IsUserinfoPart front = (front ≡ []) ⊎ ((userinfo : List ℕ) × (front ≡ userinfo ++ 64 ∷ []))

-- a name without brackets, `%` and colon; or "[", at most eight colons and no bracket, "]"
abbrev pub IsHost : List ℕ → Type 0
IsHost host =
    IsTrue (is_port_text host)
    ⊎ ((inside : List ℕ) × (host ≡ 91 ∷ (inside ++ 93 ∷ [])) × IsTrue (is_literal inside))

-- [ ":" text ], where the text needs not be a port
abbrev pub IsPortPart : List ℕ → Option ℕ → Type 0
IsPortPart part port =
    ((part ≡ []) × (port ≡ None))
    ⊎ ((text : List ℕ) × (part ≡ 58 ∷ text) × IsTrue (is_port_text text) × (port ≡ port_of text))

-- authority = [ userinfo "@" ] host [ ":" text ], where host and text are not both missing
pub record IsAuthority (bytes : List ℕ) (authority : Authority) : Type 0 where
  pub front : List ℕ
  pub behind : List ℕ
  pub parts : bytes ≡ front ++ (authority.host ++ behind)
  pub userinfo : IsUserinfoPart front
  pub host : IsHost authority.host
  pub port : IsPortPart behind authority.port
  pub last : IsFalse (has_userinfo (authority.host ++ behind))
  pub nonempty : 0 < length (authority.host ++ behind)
  pub allowed : IsTrue (list_all is_authority_byte bytes)
