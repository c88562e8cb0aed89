-- Lemmas on counts that stop at 2^64 - 1.
use Rattle.std.proofs.Common.{ℕ, ◌+◌, ◌-◌, ◌^◌, ◌≤◌, ◌<◌, arith}
use Rattle.h1_link.specs.Counts.{raised, RoseBy, Rose}

-- a raise never lowers
pub raised_most : (count by : ℕ) → count ≤ raised count by
raised_most count by = omega arith

-- a raise goes no further than its number
pub raised_least : (count by : ℕ) → raised count by ≤ count + by
raised_least count by = omega arith

-- a raised count rose
pub rose_raised : (count by : ℕ) → RoseBy by count (raised count by)
rose_raised count by = omega arith

-- what rose twice rose by the sum
pub rose_on : (a b before between now : ℕ) → RoseBy a before between → RoseBy b between now
    → RoseBy (a + b) before now
rose_on a b before between now first second = omega arith

-- an earlier count that is lower and a later one that is higher keep the rise
pub rose_along : (by before between now then : ℕ) → before ≤ between → RoseBy by between now
    → now ≤ then → RoseBy by before then
rose_along by before between now then low first high = omega arith

-- below the last value a count that rose is higher
pub rose_above : (before now : ℕ) → Rose before now → before < 2 ^ 64 - 1 → before < now
rose_above before now rise room = omega arith
