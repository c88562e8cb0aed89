-- The scheme of a URI (RFC 3986, section 3.1; RFC 9110, section 4.2).
use Rattle.std.specs.Prelude.{ℕ, Bool, false, ◌||◌, ◌&&◌, ◌==◌, List, [], ◌∷◌, map, codes}
use Rattle.std.specs.List.{list_all}
use Rattle.std.specs.Char.{is_ascii_alphabetic, is_ascii_alphanumeric, to_ascii_lowercase}
use Rattle.std.specs.Str.{bytes_eq}

-- `http` or `https`, in any case
abbrev pub is_http_family_scheme : List ℕ → Bool
is_http_family_scheme scheme =
    let lower = map to_ascii_lowercase scheme in
    bytes_eq lower (codes "http") || bytes_eq lower (codes "https")

-- ALPHA / DIGIT / "+" / "-" / "."
abbrev pub is_scheme_byte : ℕ → Bool
is_scheme_byte b = is_ascii_alphanumeric b || b == 43 || b == 45 || b == 46

-- scheme = ALPHA *( ALPHA / DIGIT / "+" / "-" / "." )
abbrev pub is_scheme : List ℕ → Bool
is_scheme [] = false
is_scheme (b ∷ bytes) = is_ascii_alphabetic b && list_all is_scheme_byte bytes
