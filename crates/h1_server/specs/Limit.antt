-- A limit of time that is set, in milliseconds.
use Rattle.std.specs.Prelude.{ℕ, ◌-◌, ◌^◌, ◌==◌, Option, Some, None, unwrap_or, if◌then◌else◌}
use Rattle.h1_server.specs.declared.limit.Limit.{Limit}

-- the last number of 64 bits, which stands for no limit
abbrev pub endless : ℕ
endless = 2 ^ 64 - 1

abbrev pub limited : Option ℕ → Limit
limited millis = record { millis = unwrap_or millis endless }

abbrev pub shown : Limit → Option ℕ
shown limit = if limit.millis == endless then None else Some limit.millis
