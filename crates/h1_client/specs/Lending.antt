-- Payload that is lent in place of being handed out (RFC 9112, section 6).
use Rattle.std.specs.Prelude.{ℕ, List, Option, Result, Ok, Err}
use Rattle.std.specs.Borrow.{Bor, Fml, MutBor, RattleType}
use Rattle.std.specs.Io.BufRead.{Rests}
use Rattle.std.specs.Option.{option_copied}
use Rattle.h1_link.specs.declared.link.Link as link
use Rattle.h1_client.specs.contracts.v1.HttpSession.{the_row}
use Rattle.h1_client.specs.Words.{Poll, Pending, Ready, Error}
use Rattle.h1_client.specs.ClientView.{ClientView}
use Rattle.h1_client.specs.ReadingBody.{PartCall}

-- an answer with the bytes that its reference shows
abbrev pub shown : Poll (Result (Option (Bor (List ℕ))) Error)
    → Poll (Result (Option (List ℕ)) Error)
shown (Ready (Ok piece)) = Ready (Ok (option_copied piece))
shown (Ready (Err error)) = Ready (Err error)
shown Pending = Pending

-- once the bytes are given back: they were what one call read of the body
abbrev pub LendsPart : (L : RattleType) (ghosts : link.Ghosts L.Denot) → ℕ
    → MutBor (ClientView L.Denot) → Poll (Result (Option (Bor (List ℕ))) Error) → Fml
LendsPart L ghosts now lender lent = Rests (the_row L ghosts) lender (λ new.
    PartCall ghosts.state ghosts.same_plan now lender.now new (shown lent))
