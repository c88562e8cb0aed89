-- How the echo application reads a body.
use Rattle.std.specs.Prelude.{◌≡◌, ◌<◌, ◌^◌, ◌⊎◌, ℕ, List, length, true, Option, Some, None, IsSome}
use Rattle.h1_echo.specs.Words.{Error, ErrorType, NoMemory, no_memory, LinkState, RequestView, SessionView, Settings, Stopped, Whole, ReadsInTime, ReadsOnly, how_of, ReadsAtOnce}
use Rattle.h1_echo.specs.declared.echo.Stopped.TheVariants as stopped
use Rattle.h1_echo.specs.Echo.{echo_settings}

-- the settings are those of the start, or those that the target sets, and no read timed out
pub record EchoRuns (head : RequestView) (began now : Settings) (limit : Option ℕ) : Type 0 where
  pub settings : (now ≡ began) ⊎ (now ≡ echo_settings head began)
  pub limit_is : limit ≡ None

-- why the reading stopped, or that it goes on
abbrev pub StopCause : {L C : Type 0} → (L → LinkState) → SessionView L C → SessionView L C
    → Option Stopped → Type 0
StopCause state old new None = ReadsAtOnce state old new
StopCause state old new (Some stopped.Whole) = (how_of new.body ≡ Whole) × (new.body.refused ≡ None)
StopCause state old new (Some stopped.Refused) = (error : Error) × (new.body.refused ≡ Some error)
StopCause state old new (Some stopped.Waits) = new.body.waits ≡ true
StopCause state old new (Some (stopped.Failed error)) = error ≡ no_memory

-- a limit is noted only where the reading is refused, and then it is the one in force
abbrev pub KeepsLimit : Option ℕ → Option ℕ → Option ℕ → Option Stopped → Type 0
KeepsLimit limit before behind (Some stopped.Refused) = (behind ≡ before) ⊎ (behind ≡ limit)
KeepsLimit limit before behind _ = behind ≡ before

-- a read that goes on gave something
abbrev pub IsLonger : List ℕ → List ℕ → Option Stopped → Type 0
IsLonger before now (Some stopped) = Unit {0}
IsLonger before now None = (length before < length now) × (length now < 2 ^ 64)

-- an error of a read is being out of memory, or the body's
abbrev pub IsStopOf : ErrorType → Stopped → Type 0
IsStopOf NoMemory stop = stop ≡ stopped.Failed no_memory
IsStopOf _ stop = stop ≡ stopped.Refused

-- the reading so far: no read was pending or refused
pub record Reading {L C : Type 0} (state : L → LinkState) (now : ℕ) (old new : SessionView L C)
    : Type 0 where
  pub only : ReadsOnly state old new
  pub timed : ReadsInTime state now old new
  pub limit : new.read_limit ≡ old.read_limit
  pub free : ReadsAtOnce state old new
  pub settings : new.settings ≡ old.settings
  pub request : IsSome new.request
  pub kept : IsSome new.body.kept
  pub budget : IsSome new.budget
