-- Since when the reading of a request's body waits, and the limit that it reaches. All times are
-- milliseconds.
use Rattle.std.specs.Prelude.{◌≡◌, ◌⊎◌, ℕ, ◌+◌, ◌≤◌, Option, Some, None, IsSome}
use Rattle.h1_error.specs.declared.error.ErrorType.TheVariants as kind
use Rattle.h1_transcript.specs.Words.{Error, ErrorType}

-- What is noted at a moment, where a link's count of calls that moved bytes went from the one number
-- to the other: reading waits since this moment, or since what was noted before where no byte moved,
-- or it doesn't wait.
abbrev pub IsNotedAt : ℕ → ℕ → ℕ → Option ℕ → Option ℕ → Type 0
IsNotedAt now before behind old None = Unit {0}
IsNotedAt now before behind old (Some start) =
    (start ≡ now) ⊎ ((behind ≡ before) × (old ≡ Some start))

-- a wait is noted, and at this moment it has reached a limit that is noted
abbrev pub IsOverAt : ℕ → Option ℕ → Option ℕ → Type 0
IsOverAt now (Some start) (Some limit) = start + limit ≤ now
IsOverAt now _ _ = ⊥

-- a limit is noted exactly where the error of this kind tells that it was reached
abbrev pub IsLimitFor : ErrorType → Option ℕ → Type 0
IsLimitFor kind.ReadTimedout limit = IsSome limit
IsLimitFor _ limit = limit ≡ None

abbrev pub IsLimitOf : Option Error → Option ℕ → Type 0
IsLimitOf None limit = limit ≡ None
IsLimitOf (Some error) limit = IsLimitFor error.kind limit
