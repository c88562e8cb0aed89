-- What a response says of its server.
use Rattle.std.proofs.Common.{◌≡◌, Bool, None, subst}
use Rattle.h1_link.specs.DialerState.{DialerState}
use Rattle.h1_link.specs.LinkState.{LinkState}
use Rattle.h1_head.specs.Views.{RequestView}
use Rattle.h1_client.specs.declared.settings.Peer.{Peer}
use Rattle.h1_asking.specs.Fetching.{Fetches}
use Rattle.h1_asking.specs.declared.fetching.Fetched.{Fetched}
use Rattle.h1_health.specs.Health.{IsAnswered, health_request, is_success}

-- a response to this request came, and so it is told
pub answered : {L D : Type 0} (state : L → LinkState) (dials : D → DialerState) (peer : Peer)
    (before now : D) (fetched : Fetched) (head : RequestView) (healthy : Bool)
    → head ≡ health_request → Fetches state dials peer head None before now fetched
    → healthy ≡ is_success fetched.status → IsAnswered state dials peer before now healthy
answered state dials peer before now fetched head healthy same fetches says = record {
  fetched = fetched;
  fetches = subst (λ h. Fetches state dials peer h None before now fetched) same fetches;
  says = says;
}
