-- How many link calls may move bytes.
use Rattle.std.specs.Prelude.{ℕ, Option, Some, None}

-- how many link calls of this call may move bytes
abbrev pub allowance : Option ℕ → ℕ
allowance None = 64
allowance (Some left) = left
