-- The setting of keep-alive (RFC 9112, section 9.3).
use Rattle.std.specs.Prelude.{ℕ, Bool, true, false, Option, Some, None, if◌then◌else◌}
use Rattle.h1_server.specs.Words.{Settings}
use Rattle.h1_server.specs.Times.{new_times}

-- what is set at first: keep-alive is off, a reply before the request's end closes, and nothing is
-- pipelined
abbrev pub new_settings : Settings
new_settings =
    record {
      keep_off = true;
      keepalive = 0;
      closing = true;
      pipelining = false;
      reuses = None;
      times = new_times;
    }

-- None turns keep-alive off; a number turns it on and is the deadline of the next head
abbrev pub keepalive_set : Settings → Option ℕ → Settings
keepalive_set settings None = record settings { keep_off = true }
keepalive_set settings (Some seconds) = record settings { keep_off = false; keepalive = seconds }

-- keep-alive without a deadline where the request wishes it, and off where it doesn't
abbrev pub wished : Bool → Option ℕ
wished true = Some 0
wished false = None

abbrev pub keepalive_timeout : Settings → Option ℕ
keepalive_timeout settings = if settings.keep_off then None else Some settings.keepalive
