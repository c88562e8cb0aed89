-- Content types of gRPC and of gRPC-web (gRPC's PROTOCOL-WEB.md, "Protocol differences vs gRPC over
-- HTTP2").
use Rattle.std.specs.Prelude.{ℕ, Bool, ◌&&◌, ◌||◌, ◌==◌, nat_eq, nat_le, List, [], map, take, length, unwrap_or, codes}
use Rattle.std.specs.Char.{to_ascii_lowercase}
use Rattle.std.specs.List.{list_all, starts_with}
use Rattle.bstr.specs.Find.{matches}
use Rattle.bstr.specs.Text.{replaced_at}
use Rattle.h1_fields.specs.Names.{same_name}
use Rattle.h1_fields.specs.Lines.{Line, first_value}

-- the first content type, and nothing where there is none
abbrev pub content_type : List Line → List ℕ
content_type lines = unwrap_or (first_value (codes "content-type") lines) []

-- visible ASCII: 0x20 to 0x7E, or HTAB
abbrev pub is_visible : ℕ → Bool
is_visible b = (nat_le 32 b && nat_le b 126) || b == 9

abbrev pub is_visible_text : List ℕ → Bool
is_visible_text value = list_all is_visible value

-- begins with the name, in any case of ASCII's letters
abbrev pub begins_in_any_case : List ℕ → List ℕ → Bool
begins_in_any_case name value = same_name name (take (length name) value)

abbrev pub grpc : List ℕ
grpc = codes "application/grpc"

abbrev pub grpc_web : List ℕ
grpc_web = codes "application/grpc-web"

-- a request's content type is of gRPC-web
abbrev pub is_grpc_web : List ℕ → Bool
is_grpc_web value = is_visible_text value && begins_in_any_case grpc_web value

-- a response's content type is of gRPC
abbrev pub is_grpc : List ℕ → Bool
is_grpc value = is_visible_text value && starts_with nat_eq value grpc

-- each place where the name stands, from the front on, has the other name
abbrev pub renamed : List ℕ → List ℕ → List ℕ → List ℕ
renamed name other value = replaced_at value (length name) other 0 (matches value name 0)

-- in lower case, as gRPC's
abbrev pub as_grpc : List ℕ → List ℕ
as_grpc value = renamed grpc_web grpc (map to_ascii_lowercase value)

abbrev pub as_grpc_web : List ℕ → List ℕ
as_grpc_web value = renamed grpc grpc_web value
