-- The request that a whole head begins (RFC 9112, sections 6.3 and 9.3).
use Rattle.std.specs.Prelude.{◌≡◌, ℕ, List, Option, None, Some, take}
use Rattle.h1_cut.specs.Limit.{CutsAt}
use Rattle.h1_head.specs.declared.limits.TheConstants.{MAX_HEADER_SIZE}
use Rattle.h1_head.specs.RequestHead.{IsAccepted, IsRefused}
use Rattle.h1_body.specs.Framing.{is_head}
use Rattle.h1_server.specs.Words.{HeadFault, IsReadAs, wish, framing, Request}

-- the head is accepted, and this request begins with it, or it is refused for a fault
abbrev pub IsReadFrom : List ℕ → Request → Option HeadFault → Type 0
IsReadFrom head request None =
    IsAccepted head request.header request.both × IsReadAs head request.raw
    × (request.wish ≡ wish request.header request.both) × (request.framing ≡ framing request.header)
    × (request.head_only ≡ is_head request.header.method)
IsReadFrom head request (Some fault) = IsRefused head fault

-- the bytes begin with a head that takes so many of them, and this is read from it
abbrev pub IsFrontRead : List ℕ → Request → Option HeadFault × ℕ → Type 0
IsFrontRead bytes request found =
    CutsAt MAX_HEADER_SIZE bytes found.1 × IsReadFrom (take found.1 bytes) request found.0
