-- The bytes of heads (RFC 9112, sections 2.1, 3, 4 and 5).
use Rattle.std.specs.Prelude.{ℕ, Bool, ◌||◌, ◌==◌, List, [], ◌∷◌, ◌++◌, Option, None, option_map, unwrap_or, codes, if◌then◌else◌}
use Rattle.std.specs.List.{list_any}
use Rattle.http.specs.StatusCode.{code_digits}
use Rattle.h1_fields.specs.Lines.{print_lines, with_line}
use Rattle.h1_head.specs.Views.{RequestView, ResponseView}
use Rattle.h1_head.specs.Versions.{version_name}
use Rattle.h1_head.specs.Response.{reason_of}

-- status-line = HTTP-version SP status-code SP [ reason-phrase ] CRLF
abbrev pub print_status_line : ResponseView → List ℕ
print_status_line view =
    unwrap_or (version_name view.version) [] ++ (32 ∷ []) ++ code_digits view.status ++ (32 ∷ [])
    ++ unwrap_or (reason_of view) [] ++ (13 ∷ 10 ∷ [])

-- the status line, the field lines and an empty line
abbrev pub head_bytes : ResponseView → List ℕ
head_bytes view = print_status_line view ++ print_lines view.fields ++ (13 ∷ 10 ∷ [])

-- the option of Connection that says whether the connection is kept (RFC 9112, section 9.6)
abbrev pub keep_option : Bool → List ℕ
keep_option keep = if keep then codes "keep-alive" else codes "close"

-- the head of a final response as it is written: with Date, and after it Connection
abbrev pub reply_head : ResponseView → List ℕ → Bool → ResponseView
reply_head view date keep =
    let dated = with_line (codes "Date") date view.fields in
    record view { fields = with_line (codes "Connection") (keep_option keep) dated }

-- a byte that ends a request's target or its line
abbrev pub is_forbidden_byte : ℕ → Bool
is_forbidden_byte b = b == 0 || b == 10 || b == 13 || b == 32

abbrev pub has_forbidden_byte : List ℕ → Bool
has_forbidden_byte target = list_any is_forbidden_byte target

-- request-line = method SP request-target SP HTTP-version CRLF
abbrev pub print_request_line : RequestView → List ℕ → List ℕ
print_request_line view version =
    view.method ++ (32 ∷ []) ++ view.target ++ (32 ∷ []) ++ version ++ (13 ∷ 10 ∷ [])

-- the request line, the field lines and an empty line
abbrev pub print_request : RequestView → List ℕ → List ℕ
print_request view version =
    print_request_line view version ++ print_lines view.fields ++ (13 ∷ 10 ∷ [])

-- the bytes of a request head, where its target and version can stand on a request line
abbrev pub request_bytes : RequestView → Option (List ℕ)
request_bytes view =
    if has_forbidden_byte view.target then None
    else option_map (print_request view) (version_name view.version)
