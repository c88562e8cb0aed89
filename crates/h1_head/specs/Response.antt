-- The parts of a response head (RFC 9112, section 4).
use Rattle.std.specs.Prelude.{ℕ, List, [], Option, None, Some}
use Rattle.http.specs.declared.version.TheConstants.Version.{HTTP_11}
use Rattle.http.specs.StatusCode.{reason_phrase}
use Rattle.h1_head.specs.Views.{ResponseView}

-- a response of version 1.1 with no fields, and with no phrase set
abbrev pub new_response : ℕ → ResponseView
new_response status = record { status = status; version = HTTP_11; reason = None; fields = [] }

-- the first that is there
abbrev pub first_there : Option (List ℕ) → Option (List ℕ) → Option (List ℕ)
first_there None other = other
first_there (Some phrase) other = Some phrase

-- the phrase that was set, else that of the status code (RFC 9110, section 15)
abbrev pub reason_of : ResponseView → Option (List ℕ)
reason_of view = first_there view.reason (reason_phrase view.status)
