-- What contracts see of a transfer, and of a session that holds one.
use Rattle.std.specs.Prelude.{◌≡◌, ℕ, List, [], Option, None}
use Rattle.h1_transfer.specs.Fresh.{IsNoBody, no_reply}
use Rattle.h1_transfer.specs.Words.{BodyState, Outgoing, Free}

pub record TransferView (L : Type 0) : Type 0 where
  pub link : L
  -- the bytes that are received and not used
  pub received : List ℕ
  pub body : BodyState
  pub outgoing : Outgoing
  pub budget : Option ℕ

-- nothing is owed while no write is in progress, unless a write was refused
pub record Settled (outgoing : Outgoing) : Type 0 where
  pub free : outgoing.step ≡ Free → outgoing.refused ≡ None → outgoing.owed ≡ []

-- how a session holds its transfer: which it is, and the session with another in its place
pub record Holds (L S : Type 0) : Type 0 where
  pub transfer : S → TransferView L
  pub put : S → TransferView L → S

-- a transfer by itself
abbrev pub itself : {L : Type 0} → Holds L (TransferView L)
itself = record { transfer = λ transfer. transfer; put = λ before transfer. transfer }

-- a transfer that read and wrote nothing yet
pub record IsNewTransfer {L : Type 0} (link : L) (new : TransferView L) : Type 0 where
  pub body : IsNoBody new.body
  pub is : new ≡ record {
    link = link;
    received = [];
    body = new.body;
    outgoing = no_reply;
    budget = None;
  }

-- nothing is left of the messages before but the bytes that are received and not used
pub record StartsOver {L : Type 0} (old new : TransferView L) : Type 0 where
  pub body : IsNoBody new.body
  pub rest : new ≡ record old { body = new.body; outgoing = no_reply }
