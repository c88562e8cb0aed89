-- What a server says to `GET /health`.
use Rattle.std.specs.Prelude.{◌≡◌, ℕ, ◌/◌, ◌==◌, Bool, [], ◌∷◌, codes, None}
use Rattle.h1_link.specs.DialerState.{DialerState}
use Rattle.h1_link.specs.LinkState.{LinkState}
use Rattle.h1_head.specs.Request.{new_request}
use Rattle.h1_head.specs.Views.{RequestView}
use Rattle.h1_client.specs.declared.settings.Peer.{Peer}
use Rattle.h1_asking.specs.Fetching.{Fetches}
use Rattle.h1_asking.specs.declared.fetching.Fetched.{Fetched}

-- GET /health, with a line of Host
abbrev pub health_request : RequestView
health_request = record (new_request (codes "GET") (codes "/health"))
    { fields = (codes "Host", codes "localhost") ∷ [] }

-- 2xx (RFC 9110, section 15.3)
abbrev pub is_success : ℕ → Bool
is_success status = status / 100 == 2

-- the request was sent without a body, and this is whether the final response says success
pub record IsAnswered {L D : Type 0} (state : L → LinkState) (dials : D → DialerState) (peer : Peer)
    (before now : D) (healthy : Bool) : Type 0 where
  pub fetched : Fetched
  pub fetches : Fetches state dials peer health_request None before now fetched
  pub says : healthy ≡ is_success fetched.status
