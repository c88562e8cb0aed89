-- What contracts see of one exchange.
use Rattle.std.specs.Prelude.{ℕ, List, Bool, true, Option, None}
use Rattle.h1_error.specs.declared.error.Error.{Error}
use Rattle.h1_head.specs.Views.{RequestView, ResponseView}
use Rattle.h1_server.specs.declared.settings.Settings.{Settings}
use Rattle.h1_transcript.specs.declared.entry.How.{How}
use Rattle.h1_transcript.specs.declared.history.History.{History}
use Rattle.h1_transcript.specs.declared.history.Holding.{Holding}
use Rattle.h1_body.specs.Payload.{Payload}
use Rattle.h1_body.specs.declared.payload.Gathering.{Gathering}
use Rattle.h1_transcript.specs.declared.reply.Reply.{Reply}
use Rattle.h1_transcript.specs.declared.history.History.TheVariants as history

pub record Entry : Type 0 where
  -- what is held of it
  pub holding : Holding
  -- the head as it was read
  pub head : RequestView
  -- the head after the request filters
  pub filtered : Option RequestView
  -- all payload that was read
  pub body : List ℕ
  -- how many bytes of the payload the application was handed
  pub handed : ℕ
  -- why the body couldn't be read on
  pub body_error : Option Error
  -- how long the read of the body that waited too long might wait
  pub read_limit : Option ℕ
  -- how the request's body stood when the reply was made
  pub how : How
  -- what was set as the exchange began
  pub began : Settings
  -- what the application left set
  pub left : Settings
  -- what the application replied
  pub reply : Option Reply
  -- the reply's header after the response filters
  pub sent_head : Option ResponseView
  -- the reply's body after the response filters
  pub sent_body : Option (List ℕ)
  -- how many bytes of the reply were written
  pub written : ℕ
  -- the second of the reply's Date since the epoch
  pub date : ℕ
  -- the reply's Date, as it is written
  pub date_text : List ℕ
  -- Content-Length stood beside Transfer-Encoding and was dropped (RFC 9112, section 6.1)
  pub both : Bool
  -- whether the reply said that the connection is kept
  pub keep : Bool
  -- the reply was taken up and is not flushed yet
  pub owed : Bool

-- what memory has of something that is there: all of it where exchanges are kept, else nothing
abbrev pub kept_in : {T : Type 0} → History → Option T → Option T
kept_in history.Kept found = found
kept_in history.Forgotten found = None

-- payload is held where exchanges are kept, or where the application uses the whole of it
abbrev pub holds_payload : History → Bool → Bool
holds_payload history.Kept gathers = true
holds_payload history.Forgotten gathers = gathers

abbrev pub gathering_of : Holding → Gathering
gathering_of holding = record {
  holds = holds_payload holding.history holding.gathers;
  limit = holding.limit;
}

-- the payload of an exchange
abbrev pub payload_in : Entry → Payload
payload_in e = record { bytes = e.body; gathering = gathering_of e.holding }
