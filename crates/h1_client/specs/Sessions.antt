-- A session by the calls that don't tell the version of its protocol.
use Rattle.std.specs.Prelude.{◌≡◌, Result, Ok, Err}
use Rattle.h1_client.specs.Words.{Poll, Pending, Ready, Error}
use Rattle.h1_client.specs.ClientView.{ClientView}
use Rattle.h1_client.specs.declared.session.HttpSession.{HttpSession}
use Rattle.h1_client.specs.declared.session.HttpSession.TheVariants.{H1}

abbrev pub v1_of : {L : Type 0} → HttpSession L → ClientView L
v1_of (H1 session) = session

-- the answer without its number
abbrev pub plain : {T : Type 0} → Poll (Result T Error) → Poll (Result (Unit {0}) Error)
plain (Ready (Ok number)) = Ready (Ok tt)
plain (Ready (Err error)) = Ready (Err error)
plain Pending = Pending

-- a call that leaves the number of its answer out
abbrev pub Plainly : {T : Type 0} → (Poll (Result T Error) → Type 0)
    → Poll (Result (Unit {0}) Error) → Type 0
Plainly {T} call outcome = (told : Poll (Result T Error)) × call told × (outcome ≡ plain told)
