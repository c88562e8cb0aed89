-- When a subrequest goes on with another protocol (RFC 9110, section 7.8).
use Rattle.std.specs.Prelude.{Bool, false, List, [], ◌∷◌, ◌||◌, ◌&&◌, not}
use Rattle.h1_head.specs.Upgrade.{asks_upgrade, is_switch}
use Rattle.h1_subrequest.specs.Words.{HttpTask, Header, RequestView, ResponseView, is_interim}

-- the response to this request changes to the protocol that it asks for
abbrev pub completes : RequestView → ResponseView → Bool
completes request header = asks_upgrade request && is_switch header

-- no header follows this one: it is final, or a 101
abbrev pub is_last : ResponseView → Bool
is_last header = not (is_interim header.status)

abbrev pub is_answer : HttpTask → Bool
is_answer (Header header end) = is_last header
is_answer task = false

-- such a header was put
abbrev pub is_answered : List HttpTask → Bool
is_answered [] = false
is_answered (task ∷ tasks) = is_answer task || is_answered tasks

abbrev pub is_upgrade : RequestView → HttpTask → Bool
is_upgrade request (Header header end) = completes request header
is_upgrade request task = false

-- a 101 that completes the upgrade was put
abbrev pub is_upgraded : RequestView → List HttpTask → Bool
is_upgraded request [] = false
is_upgraded request (task ∷ tasks) = is_upgrade request task || is_upgraded request tasks
