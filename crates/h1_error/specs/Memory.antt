-- The one error of what only allocates.
use Rattle.std.specs.Prelude.{false}
use Rattle.h1_error.specs.declared.error.Error.{Error}
use Rattle.h1_error.specs.declared.error.ErrorType.TheVariants.{NoMemory}

-- the allocator had no memory
abbrev pub no_memory : Error
no_memory = record { kind = NoMemory; retry = false }
