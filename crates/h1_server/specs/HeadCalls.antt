-- What the head of a session's request says (RFC 9112, section 3).
use Rattle.std.specs.Prelude.{ℕ, Bool, false, List, ◌∷◌, ◌++◌, codes, Option, Some, None, unwrap_or, if◌then◌else◌}
use Rattle.h1_fields.specs.Lines.{first_value}
use Rattle.h1_head.specs.Upgrade.{asks_upgrade, is_switch}
use Rattle.h1_server.specs.Words.{Request, ResponseView}

-- the value of the first line of that name
abbrev pub header_of : List ℕ → Option Request → Option (List ℕ)
header_of name None = None
header_of name (Some request) = first_value name request.header.fields

-- the request asks for another protocol
abbrev pub wishes_upgrade : Option Request → Bool
wishes_upgrade None = false
wishes_upgrade (Some request) = asks_upgrade request.header

-- whether this response changes the protocol, where the request asks for that
abbrev pub switches : Option Request → ResponseView → Option Bool
switches request head = if wishes_upgrade request then Some (is_switch head) else None
