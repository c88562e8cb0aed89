-- What comes of a filter of a module.
use Rattle.std.specs.Prelude.{◌≡◌, ℕ, ◌⊎◌, false, List, Option, Result, Ok, Err}
use Rattle.h1_error.specs.declared.error.Error.{Error}
use Rattle.h1_error.specs.declared.error.ErrorType.TheVariants.{ModuleFailed, ReadError, Duplicate}
use Rattle.h1_error.specs.Memory.{no_memory}

-- the module and the value after it, or why it refuses
abbrev pub Outcome : Type 0 → Type 0 → Type 0 → Type 0
Outcome M A R = Result (M × A) R

-- a piece of a body, if there is one
abbrev pub Piece : Type 0
Piece = Option (List ℕ)

-- why trailers are refused: by a number of the module's, or since they don't fit in a frame
pub data TrailerRefusal : Type 0 where
  by_number : ℕ → TrailerRefusal
  too_long : TrailerRefusal

-- the error of a module that refuses with this number
abbrev pub refused_by : ℕ → Error
refused_by n = record { kind = ModuleFailed n; retry = false }

abbrev pub trailer_error : TrailerRefusal → Error
trailer_error (by_number n) = refused_by n
trailer_error too_long = record { kind = ReadError; retry = false }

-- the error of a second module of one key
abbrev pub duplicate : Error
duplicate = record { kind = Duplicate; retry = false }

-- an error is that of the refusal, where the outcome is one, or out of memory
abbrev pub ErrsBy : {V R : Type 0} → (R → Error) → Result V R → Error → Type 0
ErrsBy error_of (Ok after) error = error ≡ no_memory
ErrsBy error_of (Err refusal) error = (error ≡ error_of refusal) ⊎ (error ≡ no_memory)
