-- The request that is made of a path and a body (RFC 9110, sections 9.3.1 and 9.3.3).
use Rattle.std.specs.Prelude.{ℕ, List, [], ◌∷◌, length, codes, Option, Some, None}
use Rattle.std.specs.Fmt.{decimal}
use Rattle.h1_fields.specs.Lines.{Line}
use Rattle.h1_head.specs.Request.{new_request}
use Rattle.h1_head.specs.Views.{RequestView}

abbrev pub host_line : Line
host_line = (codes "Host", codes "127.0.0.1")

abbrev pub length_line : List ℕ → Line
length_line body = (codes "Content-Length", decimal (length body))

-- a GET, or a POST where a body is sent
abbrev pub request_for : List ℕ → Option (List ℕ) → RequestView
request_for path None = record (new_request (codes "GET") path) { fields = host_line ∷ [] }
request_for path (Some body) =
    record (new_request (codes "POST") path) { fields = host_line ∷ length_line body ∷ [] }

-- a head, and the body that is sent behind it
pub record Request : Type 0 where
  pub head : RequestView
  pub body : Option (List ℕ)

abbrev pub whole_request : List ℕ → Option (List ℕ) → Request
whole_request path body = record { head = request_for path body; body = body }
