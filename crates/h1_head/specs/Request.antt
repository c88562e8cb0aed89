-- The parts of a request head (RFC 9112, section 3).
use Rattle.std.specs.Prelude.{ℕ, ◌+◌, ◌==◌, Bool, true, List, [], length, take, drop, position, Option, None, Some, option_map, unwrap_or, if◌then◌else◌}
use Rattle.http.specs.declared.version.TheConstants.Version.{HTTP_11}
use Rattle.h1_fields.specs.Lines.{Line}
use Rattle.h1_head.specs.Views.{RequestView}
use Rattle.h1_head.specs.Versions.{is_http_2, minor_version}

-- a request of version 1.1 with no fields
abbrev pub new_request : List ℕ → List ℕ → RequestView
new_request method target =
    record {
      method = method;
      target = target;
      version = HTTP_11;
      authority = None;
      fields = [];
      send_end_stream = true;
    }

-- a request that was read
abbrev pub request_read : List ℕ → List ℕ → ℕ → List Line → RequestView
request_read method target minor lines =
    record {
      method = method;
      target = target;
      version = minor_version minor;
      authority = None;
      fields = lines;
      send_end_stream = true;
    }

-- where the query of a target begins: at its first `?`
abbrev pub query_at : List ℕ → Option ℕ
query_at target = position (λ b. b == 63) target

-- what stands in front of it
abbrev pub path_of : List ℕ → List ℕ
path_of target = take (unwrap_or (query_at target) (length target)) target

-- what stands behind it
abbrev pub query_of : List ℕ → Option (List ℕ)
query_of target = option_map (λ at. drop (at + 1) target) (query_at target)

-- the flag, which only HTTP/2 has
abbrev pub end_stream_of : RequestView → Option Bool
end_stream_of view = if is_http_2 view.version then Some view.send_end_stream else None
