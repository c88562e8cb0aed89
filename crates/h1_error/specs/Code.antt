-- The numbers of the kinds of error.
use Rattle.std.specs.Prelude.{ℕ, ◌≡◌}
use Rattle.h1_error.specs.declared.error.ErrorType.{ErrorType}
use Rattle.h1_error.specs.declared.error.ErrorType.TheVariants as kind
use Rattle.h1_error.specs.declared.error.ConnectFault.{ConnectFault}
use Rattle.h1_error.specs.declared.error.TaskKind.{TaskKind}
use Rattle.h1_error.specs.declared.head_fault.HeadFault.{HeadFault}

-- the kind's number
abbrev pub code_of : ErrorType → ℕ
code_of (kind.InvalidHTTPHeader fault) = 1
code_of kind.ConnectionClosed = 2
code_of kind.InvalidBody = 3
code_of kind.ReadError = 4
code_of kind.WriteError = 5
code_of kind.ReadTimedout = 6
code_of kind.WriteTimedout = 7
code_of kind.PrematureBodyEnd = 8
code_of (kind.ConnectError fault) = 9
code_of (kind.UnexpectedTask task) = 10
code_of (kind.ModuleFailed number) = 11
code_of (kind.TaskFailed number) = 12
code_of kind.Duplicate = 13
code_of kind.NoMemory = 14
code_of kind.ContentTooLarge = 15

-- the second is of the first's kind, whatever value it carries
abbrev pub SameVariant : ErrorType → ErrorType → Type 0
SameVariant (kind.InvalidHTTPHeader fault) b =
    (other : HeadFault) × (b ≡ kind.InvalidHTTPHeader other)
SameVariant kind.ConnectionClosed b = b ≡ kind.ConnectionClosed
SameVariant kind.InvalidBody b = b ≡ kind.InvalidBody
SameVariant kind.ReadError b = b ≡ kind.ReadError
SameVariant kind.WriteError b = b ≡ kind.WriteError
SameVariant kind.ReadTimedout b = b ≡ kind.ReadTimedout
SameVariant kind.WriteTimedout b = b ≡ kind.WriteTimedout
SameVariant kind.PrematureBodyEnd b = b ≡ kind.PrematureBodyEnd
SameVariant (kind.ConnectError fault) b = (other : ConnectFault) × (b ≡ kind.ConnectError other)
SameVariant (kind.UnexpectedTask task) b = (other : TaskKind) × (b ≡ kind.UnexpectedTask other)
SameVariant (kind.ModuleFailed number) b = (other : ℕ) × (b ≡ kind.ModuleFailed other)
SameVariant (kind.TaskFailed number) b = (other : ℕ) × (b ≡ kind.TaskFailed other)
SameVariant kind.Duplicate b = b ≡ kind.Duplicate
SameVariant kind.NoMemory b = b ≡ kind.NoMemory
SameVariant kind.ContentTooLarge b = b ≡ kind.ContentTooLarge
