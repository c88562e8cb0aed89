-- How long the reads and writes of a session may wait. All times are milliseconds.
use Rattle.std.specs.Prelude.{ℕ, zero, suc, ◌-◌, ◌*◌, ◌/◌, ◌^◌, min, max, List, Option, Some, None, if◌then◌else◌}
use Rattle.h1_server.specs.Words.{Outgoing, Settings}
use Rattle.h1_server.specs.Limit.{limited, shown}
use Rattle.h1_transfer.specs.BodyWrites.{piece_len}
use Rattle.h1_transfer.specs.declared.deadline.Deadline.{Deadline}
use Rattle.h1_transfer.specs.declared.since.DrainLimits.{DrainLimits}
use Rattle.h1_server.specs.declared.times.Times.{Times}

-- what is set at first: reads may wait a minute, and nothing else has a limit
abbrev pub new_times : Times
new_times = record {
  read = limited (Some 60000);
  drain = limited None;
  write = limited None;
  min_send_rate = 0;
}

-- a number that stops at the last of 64 bits
abbrev pub saturated : ℕ → ℕ
saturated n = min n (2 ^ 64 - 1)

-- how long the read of a head may wait: the time of keep-alive in seconds, of which 0 is no limit, or
-- the read timeout where keep-alive is off
abbrev pub head_limit : Settings → Option ℕ
head_limit settings =
    if settings.keep_off then shown settings.times.read else kept settings.keepalive where
      kept : ℕ → Option ℕ
      kept zero = None
      kept (suc n) = Some (saturated (suc n * 1000))

-- the time that a piece takes at a rate in bytes a second; a short one has a second
abbrev pub rate_time : ℕ → ℕ → ℕ
rate_time len rate = saturated (max len rate * 1000 / rate)

-- how long the write of a piece may wait; a rate of 0 is none
abbrev pub piece_limit : Times → ℕ → Option ℕ
piece_limit times len = by times.min_send_rate (shown times.write) len where
  by : ℕ → Option ℕ → ℕ → Option ℕ
  by zero write len = write
  by (suc n) write len = Some (rate_time len (suc n))

abbrev pub head_deadline : Settings → ℕ → Deadline
head_deadline settings now = record { moment = now; limit = head_limit settings }

abbrev pub body_deadline : Times → ℕ → Deadline
body_deadline times now = record { moment = now; limit = shown times.read }

abbrev pub drain_limits : Times → ℕ → DrainLimits
drain_limits times now = record { moment = now; read = shown times.read; total = shown times.drain }

-- how long the write of the piece that is handed in, or that goes on, may wait
abbrev pub piece_deadline : Times → ℕ → Outgoing → Option (List ℕ) → Deadline
piece_deadline times now reply piece =
    record { moment = now; limit = piece_limit times (piece_len reply piece) }
