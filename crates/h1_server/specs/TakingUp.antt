-- Taking up the head, a piece and the end of a reply (RFC 9112, sections 4 to 7).
use Rattle.std.specs.Prelude.{◌≡◌, ℕ, [], Bool, false, Option, Result, Ok, Err, if◌then◌else◌}
use Rattle.h1_server.specs.Words.{Error, ResponseView, Framing, flushes_head, TransferView, Request, Head}
use Rattle.h1_server.specs.HeaderWrites.{TakesHeader, HeaderRefusal}
use Rattle.h1_transfer.specs.BodyWrites.{IsTakenUp}
use Rattle.h1_transfer.specs.declared.delivering.Delivery.{Delivery}
use Rattle.h1_transfer.specs.declared.delivering.Delivery.TheVariants as delivery

-- A header that is handed in is taken up, where nothing is owed. Where it can't be, nothing changes.
abbrev pub TakesUpHeader : {L : Type 0} → TransferView L → TransferView L → Request → Bool
    → ResponseView → ℕ → Result (Unit {0}) Error → Type 0
TakesUpHeader old new request flag header now (Ok done) =
    TakesHeader old.outgoing new.outgoing request flag header now new.outgoing.owed
    × IsTakenUp old.outgoing new.outgoing Head
    × (new ≡ record old { outgoing = new.outgoing }) × (old.outgoing.owed ≡ [])
TakesUpHeader old new request flag header now (Err error) =
    (new ≡ old) × HeaderRefusal header error.kind × (error.retry ≡ false)

-- what a head's framing asks for
abbrev pub head_delivery : Option Framing → Delivery
head_delivery framing = if flushes_head framing then delivery.Flushed else delivery.Sent
