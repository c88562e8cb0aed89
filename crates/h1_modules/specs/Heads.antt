-- Modules that filter heads alone, and keep nothing from filter to filter.
use Rattle.std.specs.Prelude.{Result, Ok, Err}
use Rattle.h1_modules.specs.Outcome.{Outcome}

-- the outcome of a filter that leaves its module as it is
abbrev pub stateless : {M V R : Type 0} → M → Result V R → Outcome M V R
stateless m (Ok value) = Ok (m, value)
stateless m (Err refusal) = Err refusal
