-- Reading what is left of a request's body after its reply, and going on to the next request.
use Rattle.std.specs.Prelude.{◌≡◌, ◌≤◌, ℕ, length, Bool, Option, None, Some, Result, Ok, Err, true, false}
use Rattle.h1_app.specs.Words.{Fault, FaultsBy, Poll, Ready, Pending, Error, LinkState, ReusesBy, keeps_alive, SessionView, Entry, Stage, Outcome, payload_of, payload_in}
use Rattle.h1_error.specs.declared.progress.Waiting.TheVariants as waiting
use Rattle.h1_error.specs.declared.progress.End.TheVariants as end
use Rattle.h1_app.specs.declared.exchange.Stage.TheVariants as stage
use Rattle.h1_app.specs.declared.exchange.Outcome.TheVariants as outcome
use Rattle.h1_transfer.specs.Calls.{CallsFew}
use Rattle.h1_app.specs.Answering.{lent}
use Rattle.h1_app.specs.Replied.{IsDraining, MayGoOn}

-- the session was asked at a moment for its link's reuse as it is lent, and the payload went back to the exchange
pub record ReusesAs {L C : Type 0} (state : L → LinkState) (now : ℕ) (old new : SessionView L C)
    (e noted : Entry) (answer : Poll (Result Bool Error)) : Type 0 where
  pub behind : SessionView L C
  pub reuses : ReusesBy state now (lent old (payload_in e)) behind answer (keeps_alive old)
  pub session : new ≡ record behind { body = record behind.body { kept = None } }
  pub entry : noted ≡ record e { body = payload_of behind }
  pub within : length noted.body ≤ e.holding.limit

-- a link that isn't kept is shut behind its last flush, and no other is shut; `before` tells
-- whether it was
abbrev pub ShutUnless : Bool → Bool → LinkState → Type 0
ShutUnless true before now = now.shut ≡ before
ShutUnless false before now = (now.shut ≡ true) × (now.shut_at ≡ now.flushed)

-- what asking for the reuse of a link did to it beside moving bytes
pub record CalledForReuse (before now : LinkState) (alive done : Bool)
    (fault : Fault) : Type 0 where
  pub others : CallsFew before now done
  pub faults : FaultsBy before now fault
  pub shut : ShutUnless alive before.shut now

-- where an exchange stands after the call for its link's reuse; `alive` tells whether the
-- connection is kept
abbrev pub StandsDrained : {J : Type 0} → Poll (Result Bool Error) → Bool → Stage J → Stage J
    → Outcome → Type 0
StandsDrained Pending alive from to result = (to ≡ from) × (result ≡ outcome.Waits waiting.Read)
StandsDrained (Ready (Ok true)) alive from to result = (to ≡ stage.Next) × (result ≡ outcome.Done)
StandsDrained (Ready (Ok false)) true from to result =
    (to ≡ from) × (result ≡ outcome.Ends end.Overread)
StandsDrained (Ready (Ok false)) false from to result =
    (to ≡ from) × (result ≡ outcome.Ends end.NotKept)
StandsDrained (Ready (Err error)) alive from to result =
    (to ≡ from) × (result ≡ outcome.Ends (end.Failed error))

-- the last exchange of the transcript is over
abbrev pub LastMayGoOn : {L C : Type 0} → SessionView L C → Option Entry → Type 0
LastMayGoOn session last = (e : Entry) × (last ≡ Some e) × IsDraining e session × MayGoOn e session
