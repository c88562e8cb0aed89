-- What stands before a message: nothing is read of its body, and nothing is written.
use Rattle.std.specs.Prelude.{◌≡◌, ℕ, List, [], None, false}
use Rattle.h1_transfer.specs.Words.{reads, Counted, BodyState, Outgoing, Free}
use Rattle.h1_body.specs.Reader.{body}
use Rattle.h1_transfer.specs.ReadWaits.{no_wait}

-- no body was begun: one of no bytes is at its end
pub record IsNoBody (state : BodyState) : Type 0 where
  pub reader : (rest : List ℕ) → reads state.reader rest ≡ body (Counted 0) rest
  pub rest : state ≡ record { reader = state.reader; kept = None; refused = None; waits = false; since = no_wait }

-- nothing was taken up
abbrev pub no_reply : Outgoing
no_reply = record {
  step = Free;
  owed = [];
  writer = record { framing = None; written = 0; ended = false };
  headed = false;
  refused = None;
  sent = 0;
  handed = 0;
  write_since = None;
}
