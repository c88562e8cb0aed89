-- What a link gave and took, and how often it was called: the transport connection of RFC 9112,
-- section 9, as its user sees it.
use Rattle.std.specs.Prelude.{◌≡◌, ℕ, List, [], Bool, false, Option, None, Some}

pub record LinkState : Type 0 where
  -- the bytes that its reads handed out, where the link tells them
  pub given : Option (List ℕ)
  -- the bytes that its writes took, where the link tells them
  pub written : Option (List ℕ)
  -- a read met the peer's end
  pub ended : Bool
  -- the reads that failed; the writes and flushes that failed
  pub read_faults : ℕ
  pub write_faults : ℕ
  -- the reads that weren't ready; the writes and flushes that weren't
  pub read_waits : ℕ
  pub write_waits : ℕ
  -- how many bytes its reads handed out and its writes took
  pub bytes_in : ℕ
  pub bytes_out : ℕ
  -- the calls that moved a byte: a read that gave bytes, or a write that took some
  pub moves : ℕ
  -- all other calls: a read or a write that waited, failed, met the end, had no memory or took no
  -- byte, each flush and each shutdown
  pub others : ℕ
  -- `bytes_out` when a flush was last done, 0 before
  pub flushed : ℕ
  -- the link was shut down for both sides
  pub shut : Bool
  -- `flushed` when the link was last shut down, 0 before
  pub shut_at : ℕ

-- a link that tells its bytes, before its first call
abbrev pub fresh_state : LinkState
fresh_state = record {
  given = Some [];
  written = Some [];
  ended = false;
  read_faults = 0;
  write_faults = 0;
  read_waits = 0;
  write_waits = 0;
  bytes_in = 0;
  bytes_out = 0;
  moves = 0;
  others = 0;
  flushed = 0;
  shut = false;
  shut_at = 0;
}

-- told bytes are none
abbrev pub NoBytes : Option (List ℕ) → Type 0
NoBytes None = Unit {0}
NoBytes (Some bytes) = bytes ≡ []

-- no byte passed the link yet either way, and neither side ended it
pub record IsFresh (s : LinkState) : Type 0 where
  pub given : NoBytes s.given
  pub written : NoBytes s.written
  pub bytes_in : s.bytes_in ≡ 0
  pub bytes_out : s.bytes_out ≡ 0
  pub ended : s.ended ≡ false
  pub shut : s.shut ≡ false
