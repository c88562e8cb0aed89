-- What contracts see of a server session.
use Rattle.std.specs.Prelude.{◌≡◌, ℕ, List, [], Bool, Option, Some, None, false, if◌then◌else◌}
use Rattle.h1_server.specs.Words.{Error, Request, BodyState, Outgoing, IsNoBody, no_reply, Settings, HasLooked, HeadSearch, MAX_HEADER_SIZE}
use Rattle.h1_server.specs.Keepalive.{new_settings}
use Rattle.h1_server.specs.declared.request_state.RequestState.{RequestState}
use Rattle.h1_server.specs.declared.times.Times.{Times}
use Rattle.h1_transfer.specs.TransferView.{Holds}

pub record SessionView (L C : Type 0) : Type 0 where
  pub link : L
  -- the bytes that are received and not used
  pub received : List ℕ
  pub request : Option Request
  -- the refusal that each later read of a head answers
  pub refused : Option Error
  pub body : BodyState
  pub reply : Outgoing
  -- the flag of the final header that was taken up
  pub keep : Bool
  pub settings : Settings
  pub budget : Option ℕ
  -- the link may serve the next request
  pub reusable : Bool
  -- what the caller keeps with the connection
  pub context : Option C
  -- the read timeout that was in force at the read of the body that timed out
  pub read_limit : Option ℕ

-- how a session holds its transfer
abbrev pub session : {L C : Type 0} → Holds L (SessionView L C)
session = record {
  transfer =
      λ s. record {
        link = s.link;
        received = s.received;
        body = s.body;
        outgoing = s.reply;
        budget = s.budget;
      };
  put = λ s t. record s {
    link = t.link;
    received = t.received;
    body = t.body;
    reply = t.outgoing;
    budget = t.budget;
  };
}

-- the same where a call leaves this limit noted
abbrev pub noting : {L C : Type 0} → Option ℕ → Holds L (SessionView L C)
noting limit = record {
  transfer = session.transfer;
  put = λ s t. record (session.put s t) { read_limit = limit };
}

-- the request, once its head was read
abbrev pub request_in : RequestState → Option Request
request_in asked = if asked.is_read then Some asked.place.request else None

-- until a head is read, the search for its end has looked at a front of what is received
abbrev pub IsSearched : Option Request → HeadSearch → List ℕ → Type 0
IsSearched None search received = HasLooked MAX_HEADER_SIZE search received
IsSearched (Some request) search received = Unit {0}

-- a session that read and wrote nothing yet
pub record IsNewSession {L C : Type 0} (start : L) (view : SessionView L C) : Type 0 where
  pub link : view.link ≡ start
  pub received : view.received ≡ []
  pub request : view.request ≡ None
  pub refused : view.refused ≡ None
  pub body : IsNoBody view.body
  pub reply : view.reply ≡ no_reply
  pub keep : view.keep ≡ false
  pub settings : view.settings ≡ new_settings
  pub budget : view.budget ≡ None
  pub reusable : view.reusable ≡ false
  pub context : view.context ≡ None
  pub read_limit : view.read_limit ≡ None

-- the session with other times
abbrev pub times_set : {L C : Type 0} → SessionView L C → Times → SessionView L C
times_set session times = record session { settings = record session.settings { times = times } }
