-- Handing the link of a session on to the next request, and what is left for it (RFC 9112, sections
-- 9.3 and 9.3.2).
use Rattle.std.specs.Prelude.{◌≡◌, ℕ, ◌-◌, List, [], ◌∷◌, Bool, true, false, Option, Some, None, Result, Ok, Err}
use Rattle.h1_server.specs.Words.{Poll, Ready, Pending, Error, LinkState, IsNoBody, no_reply, Settings}
use Rattle.h1_link.specs.Steps.{after_shutdown}
use Rattle.h1_server.specs.Payload.{DrainsBody}
use Rattle.h1_server.specs.Persistence.{may_follow}
use Rattle.h1_server.specs.SessionView.{SessionView}
use Rattle.h1_server.specs.Times.{new_times}

-- the link is reusable where the rest of the body was read and the next request may follow
abbrev pub ReuseAnswer : {L C : Type 0} → SessionView L C → Poll (Result (Unit {0}) Error)
    → Poll (Result Bool Error) → Type 0
ReuseAnswer new (Ready (Ok done)) result =
    (new.reusable ≡ may_follow new.settings.pipelining new.received)
    × (result ≡ Ready (Ok new.reusable))
ReuseAnswer new (Ready (Err error)) result = (new.reusable ≡ false) × (result ≡ Ready (Err error))
ReuseAnswer new Pending result = (new.reusable ≡ false) × (result ≡ Pending)

-- A link that isn't kept is shut. Of one that is kept the rest of the body is read first.
abbrev pub ReusesBy : {L C : Type 0} → (L → LinkState) → ℕ → SessionView L C → SessionView L C
    → Poll (Result Bool Error) → Bool → Type 0
ReusesBy {L} {C} state now old new result true =
    (drained : SessionView L C) × (outcome : Poll (Result (Unit {0}) Error))
    × DrainsBody state now old drained outcome × (new ≡ record drained { reusable = new.reusable })
    × ReuseAnswer new outcome result
ReusesBy state now old new result false =
    (result ≡ Ready (Ok false)) × (state new.link ≡ after_shutdown (state old.link))
    × (new ≡ record old { link = new.link; reusable = false })

-- what stands before the next request, where there is anything
abbrev pub prefix_of : List ℕ → Option (List ℕ)
prefix_of [] = None
prefix_of (b ∷ bytes) = Some (b ∷ bytes)

-- one request fewer may follow, where there is a limit
abbrev pub one_less : Option ℕ → Option ℕ
one_less None = None
one_less (Some n) = Some (n - 1)

-- what stays set from one request to the next: keep-alive, pipelining and how many may follow
abbrev pub next_settings : Settings → Settings
next_settings settings =
    record settings { closing = true; reuses = one_less settings.reuses; times = new_times }

-- The session awaits the next request on the same link: what was received and not used is in front,
-- and of the request before nothing is left.
pub record AwaitsNext {L C : Type 0} (old new : SessionView L C) : Type 0 where
  pub body : IsNoBody new.body
  pub rest : new ≡ record old {
    request = None;
    refused = None;
    body = new.body;
    reply = no_reply;
    keep = false;
    settings = next_settings old.settings;
    reusable = false;
    read_limit = None;
  }
