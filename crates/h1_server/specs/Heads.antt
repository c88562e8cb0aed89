-- The head of a session's request, to be changed in place.
use Rattle.std.specs.Prelude.{option_map}
use Rattle.std.specs.Borrow.{Lends, Fml, RattleType, MutBor}
use Rattle.h1_link.specs.declared.link.Link as link
use Rattle.h1_head.specs.Views.{RequestView}
use Rattle.h1_head.specs.contracts.request.RequestHeader as header
use Rattle.h1_server.specs.contracts.server.HttpSession.{the_row}
use Rattle.h1_server.specs.SessionView.{SessionView}
use Rattle.h1_server.specs.Words.{Request}

-- the session with this head of its request; what else was read of the request stays
abbrev pub with_header : {L C : Type 0} → SessionView L C → RequestView → SessionView L C
with_header session header =
    record session {
      request =
          option_map (λ (request : Request). record request { header = header }) session.request;
    }

-- the session's request ends with the last head that was written through the reference
abbrev pub LendsHeader : (L C : RattleType) (state : link.Ghosts L.Denot)
    → MutBor (SessionView L.Denot C.Denot) → MutBor RequestView → Fml
LendsHeader L C state lender lent =
    Lends (the_row L C state) header.the_row lender lent (with_header lender.now)
