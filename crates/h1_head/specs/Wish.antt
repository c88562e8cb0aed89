-- Whether a request wishes the connection kept (RFC 9112, section 9.3).
use Rattle.std.specs.Prelude.{Bool, true, false, if◌then◌else◌}
use Rattle.h1_fields.specs.Codings.{lists_close, lists_keep_alive}
use Rattle.h1_head.specs.Versions.{is_http_11}
use Rattle.h1_head.specs.Views.{RequestView}

-- `close` denies; else `keep-alive` grants; else version 1.1 does. A head that had both
-- Transfer-Encoding and Content-Length denies before all (RFC 9112, section 6.1)
abbrev pub wish : RequestView → Bool → Bool
wish request both =
    if both
    then false
    else (if lists_close request.fields
    then false
    else (if lists_keep_alive request.fields then true else is_http_11 request.version))
