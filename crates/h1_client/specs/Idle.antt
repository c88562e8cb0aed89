-- What contracts see of an idle link, and how long it may stand idle.
use Rattle.std.specs.Prelude.{ℕ, ◌+◌, ◌*◌, ◌-◌, ◌^◌, min, nat_le, Bool, false, Option, Some, None}
use Rattle.h1_client.specs.declared.keeping.Keepalive.{Keepalive}
use Rattle.h1_client.specs.declared.keeping.Keepalive.TheVariants.{Off, On}

pub record IdleView (L : Type 0) : Type 0 where
  pub link : L
  -- the key of its peer, where it is known
  pub key : Option ℕ
  -- the millisecond from which it isn't handed out any more, where there is one
  pub deadline : Option ℕ

-- the deadline is reached
abbrev pub is_past : Option ℕ → ℕ → Bool
is_past None now = false
is_past (Some deadline) now = nat_le deadline now

-- so many milliseconds from now, and no later than the last moment
abbrev pub moment_behind : ℕ → Option ℕ → Option ℕ
moment_behind now None = None
moment_behind now (Some timeout) = Some (min (now + timeout) (2 ^ 64 - 1))

-- how many milliseconds the peer lets the link stand idle, where it says so
abbrev pub stated_idle : Keepalive → Option ℕ
stated_idle Off = None
stated_idle (On None) = None
stated_idle (On (Some seconds)) = Some (min (seconds * 1000) (2 ^ 64 - 1))

-- the earlier of two moments
abbrev pub earlier : Option ℕ → Option ℕ → Option ℕ
earlier None other = other
earlier (Some moment) None = Some moment
earlier (Some moment) (Some other) = Some (min moment other)

-- both what the owner lets it and what the peer does
abbrev pub deadline_of : ℕ → Option ℕ → Keepalive → Option ℕ
deadline_of now idle_timeout keepalive =
    earlier (moment_behind now idle_timeout) (moment_behind now (stated_idle keepalive))
