-- What goes from one request to the next on a link (RFC 9112, section 9.3).
use Rattle.std.specs.Prelude.{List, ℕ, Option, None, Some}
use Rattle.bytes.specs.Filled.{Filled}
use Rattle.h1_app.specs.Words.{keepalive_set, one_less, SessionView}
use Rattle.h1_app.specs.declared.reused.HttpPersistentSettings.{HttpPersistentSettings}

-- what stands in front, where there is anything
abbrev pub in_front : Option Filled → List ℕ → List ℕ
in_front None received = received
in_front (Some prefix) received = prefix.items

-- a new session, set as the one before
abbrev pub applied : {L C : Type 0} → HttpPersistentSettings C → SessionView L C → SessionView L C
applied settings session = record session {
  settings =
      record (keepalive_set session.settings settings.keepalive_timeout) {
        reuses = one_less settings.keepalive_reuses_remaining;
        pipelining = settings.pipelining_enabled;
      };
  context = settings.user_context;
  received = in_front settings.pipelined_prefix session.received;
}

-- the settings with what was received after the request
abbrev pub with_prefix : {C : Type 0} → HttpPersistentSettings C → Option Filled
    → HttpPersistentSettings C
with_prefix settings None = settings
with_prefix settings (Some prefix) = record settings { pipelined_prefix = Some prefix }
