-- What is set on a client's session. All times are milliseconds.
use Rattle.std.specs.Prelude.{ℕ, false, Option, Some, None}
use Rattle.h1_client.specs.Words.{Deadline}
use Rattle.h1_client.specs.declared.settings.Peer.{Peer}
use Rattle.h1_client.specs.declared.settings.Settings.{Settings}

-- how long a read may wait without bytes
abbrev pub read_deadline : Settings → ℕ → Deadline
read_deadline settings now = record { moment = now; limit = settings.read_timeout }

-- how long a write may wait without bytes
abbrev pub write_deadline : Settings → ℕ → Deadline
write_deadline settings now = record { moment = now; limit = settings.write_timeout }

-- nothing has a limit, and there is no peer
abbrev pub new_settings : Settings
new_settings = record {
  read_timeout = None;
  write_timeout = None;
  tolerant = false;
  key = None;
  until = None;
}

-- a session with this peer is set so at first
abbrev pub peer_settings : Peer → Settings
peer_settings peer = record new_settings {
  tolerant = peer.allow_h1_response_invalid_content_length;
  key = Some peer.key;
}

-- one over a link that stood idle under this key, and might until this moment, is set so
abbrev pub idle_settings : Option ℕ → Option ℕ → Peer → Settings
idle_settings key until peer = record (peer_settings peer) { key = key; until = until }
