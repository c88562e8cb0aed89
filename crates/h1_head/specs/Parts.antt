-- Heads made from the parts of other types (RFC 9112, section 3.2).
use Rattle.std.specs.Prelude.{ℕ, true, List, [], Option, None, Some, map, unwrap_or}
use Rattle.http.specs.declared.request.Parts.{Parts as RequestParts}
use Rattle.http.specs.declared.response.Parts.{Parts as ResponseParts}
use Rattle.http_header.specs.FieldValue.{FieldValue}
use Rattle.http_header.specs.HeaderMap.{Entries, pairs}
use Rattle.http_uri.specs.declared.uri.Uri.{Uri}
use Rattle.http_uri.specs.Uri.{uri_authority, uri_path_and_query}
use Rattle.http_uri.specs.Grammar.{or_slash}
use Rattle.h1_fields.specs.Lines.{Line}
use Rattle.h1_head.specs.Views.{RequestView, ResponseView}

abbrev pub line_of : (List ℕ × FieldValue) → Line
line_of pair = (pair.0, pair.1.bytes)

-- a line for each value, the values of a name together
abbrev pub lines_of : Entries FieldValue → List Line
lines_of headers = map line_of (pairs headers)

-- path and query, or the authority of a URI without a path
abbrev pub target_of : Uri → List ℕ
target_of uri = target (uri_path_and_query uri)
  where
    target : Option (List ℕ) → List ℕ
    target None = unwrap_or (uri_authority uri) []
    target (Some text) = or_slash text

abbrev pub request_of_parts : RequestParts → RequestView
request_of_parts parts =
    record {
      method = parts.method;
      target = target_of parts.uri;
      version = parts.version;
      authority = uri_authority parts.uri;
      fields = lines_of parts.headers;
      send_end_stream = true;
    }

abbrev pub response_of_parts : ResponseParts → ResponseView
response_of_parts parts =
    record {
      status = parts.status;
      version = parts.version;
      reason = None;
      fields = lines_of parts.headers;
    }
