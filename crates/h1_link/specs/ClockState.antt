-- What contracts see of a clock: the moment that it told last, and how often it was asked.
use Rattle.std.specs.Prelude.{ℕ}

pub record ClockState : Type 0 where
  -- in milliseconds since the epoch
  pub moment : ℕ
  -- how often it was asked for the moment
  pub asked : ℕ

-- a clock that was not asked yet, at this moment
abbrev pub clock_at : ℕ → ClockState
clock_at moment = record { moment = moment; asked = 0 }
