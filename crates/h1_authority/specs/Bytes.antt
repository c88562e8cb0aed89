-- The delimiters of a URI and the bytes of its parts (RFC 3986, sections 2 and 3).
use Rattle.std.specs.Prelude.{ℕ, Bool, ◌||◌, ◌==◌, List}
use Rattle.std.specs.List.{list_any, before_first}

-- `/`, `?` and `#`, before the first of which an authority ends
abbrev pub ends_authority : ℕ → Bool
ends_authority b = b == 47 || b == 63 || b == 35

-- what stands before the first of them
abbrev pub authority_part : List ℕ → List ℕ
authority_part bytes = before_first ends_authority bytes

-- `[` and `]`
abbrev pub is_bracket : ℕ → Bool
is_bracket b = b == 91 || b == 93

-- an `@` anywhere is the end of userinfo (RFC 3986, section 3.2.1)
abbrev pub has_userinfo : List ℕ → Bool
has_userinfo bytes = list_any (λ b. b == 64) bytes
