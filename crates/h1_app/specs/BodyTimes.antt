-- Since when the reading of a request's body waits, and when the body is refused for its time. All
-- times are milliseconds.
use Rattle.std.specs.Prelude.{◌≡◌, ◌⊎◌, ℕ, Option, Some, None}
use Rattle.h1_app.specs.Words.{Error, Entry, OfLast}
use Rattle.h1_error.specs.declared.error.ErrorType.TheVariants as kind
use Rattle.h1_transcript.specs.BodyLimits.{IsOverAt}

-- a wait that is noted began at this moment, or was noted before
abbrev pub IsNotedIn : ℕ → Option ℕ → Option ℕ → Type 0
IsNotedIn now old None = Unit {0}
IsNotedIn now old (Some start) = (start ≡ now) ⊎ (old ≡ Some start)

-- the body of the last exchange was refused for its time
abbrev pub NotesTimeout : Option Entry → Type 0
NotesTimeout last = OfLast last (λ e. (error : Error) × (e.body_error ≡ Some error)
    × (error.kind ≡ kind.ReadTimedout))

-- the limit that is kept of it
abbrev pub limit_of_last : Option Entry → Option ℕ
limit_of_last None = None
limit_of_last (Some e) = e.read_limit

-- a wait has reached this limit that began at this moment, or was noted before
abbrev pub IsLateSince : ℕ → Option ℕ → Option ℕ → Type 0
IsLateSince now old limit = (start : ℕ) × IsNotedIn now old (Some start) × IsOverAt now (Some start) limit

-- What is left at this moment of the waits of reads, where the one was noted before and the other
-- is now, and of the body of the exchange that is last.
pub record BodyInTime (now : ℕ) (old new : Option ℕ) (last behind : Option Entry) : Type 0 where
  pub since : IsNotedIn now old new
  -- a body is refused for its time only where it has reached the limit that is kept
  pub late : NotesTimeout behind → NotesTimeout last ⊎ IsLateSince now old (limit_of_last behind)
  -- such a refusal stays, with its limit
  pub kept : NotesTimeout last → NotesTimeout behind × (limit_of_last behind ≡ limit_of_last last)
