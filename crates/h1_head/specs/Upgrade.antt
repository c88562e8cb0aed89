-- The change of a connection's protocol (RFC 9110, section 7.8).
use Rattle.std.specs.Prelude.{Bool, ◌&&◌, ◌==◌, codes}
use Rattle.h1_fields.specs.Lines.{has_line}
use Rattle.h1_head.specs.Versions.{is_http_11}
use Rattle.h1_head.specs.Views.{RequestView, ResponseView}

-- a request asks for another protocol
abbrev pub asks_upgrade : RequestView → Bool
asks_upgrade request = is_http_11 request.version && has_line (codes "Upgrade") request.fields

-- a response changes the protocol
abbrev pub is_switch : ResponseView → Bool
is_switch said = said.status == 101 && is_http_11 said.version
