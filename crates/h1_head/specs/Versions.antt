-- Versions of HTTP (RFC 9112, section 2.3).
use Rattle.std.specs.Prelude.{ℕ, zero, suc, Bool, true, false, List, Option, None, Some, codes}
use Rattle.http.specs.declared.version.Version.{Version}
use Rattle.http.specs.declared.version.Http.{Http}
use Rattle.http.specs.declared.version.Http.TheVariants.{Http09, Http10, Http11, H2, H3}
use Rattle.http.specs.declared.version.TheConstants.Version.{HTTP_10, HTTP_11}

-- the name on a start line, which HTTP/3 has not
abbrev pub name_of : Http → Option (List ℕ)
name_of Http09 = Some (codes "HTTP/0.9")
name_of Http10 = Some (codes "HTTP/1.0")
name_of Http11 = Some (codes "HTTP/1.1")
name_of H2 = Some (codes "HTTP/2")
name_of H3 = None

abbrev pub version_name : Version → Option (List ℕ)
version_name version = name_of version.0

abbrev pub is_http_10 : Version → Bool
is_http_10 version = is version.0
  where
    is : Http → Bool
    is Http10 = true
    is Http09 = false
    is Http11 = false
    is H2 = false
    is H3 = false

abbrev pub is_http_11 : Version → Bool
is_http_11 version = is version.0
  where
    is : Http → Bool
    is Http11 = true
    is Http09 = false
    is Http10 = false
    is H2 = false
    is H3 = false

abbrev pub is_http_2 : Version → Bool
is_http_2 version = is version.0
  where
    is : Http → Bool
    is H2 = true
    is Http09 = false
    is Http10 = false
    is Http11 = false
    is H3 = false

-- a version that a reply's head may have
abbrev pub is_http_1 : Version → Bool
is_http_1 version = is version.0
  where
    is : Http → Bool
    is Http09 = true
    is Http10 = true
    is Http11 = true
    is H2 = false
    is H3 = false

-- HTTP/1.0 or HTTP/1.1, by the digit after the dot
abbrev pub minor_version : ℕ → Version
minor_version zero = HTTP_10
minor_version (suc n) = HTTP_11
