-- How a session and the exchange that is last stand to each other until the application replies.
use Rattle.std.specs.Prelude.{◌≡◌, ◌^◌, ◌<◌, [], length, false, Some, None}
use Rattle.h1_app.specs.Words.{is_head, wish, SessionView, Request, Outgoing, Entry}
use Rattle.h1_body.specs.Payload.{Payload}
use Rattle.h1_server.specs.Times.{new_times}
use Rattle.h1_transfer.specs.declared.outgoing.Step.TheVariants as step

-- the session with the payload handed in, as it is lent to the application
abbrev pub lent : {L C : Type 0} → SessionView L C → Payload → SessionView L C
lent session payload = record session { body = record session.body { kept = Some payload } }

-- The session but for its link, its budget and what the caller keeps with it. What is sound says
-- nothing of these, so it holds on as they change.
abbrev pub Bare : Type 0
Bare = SessionView (Unit {0}) (Unit {0})

abbrev pub bare : {L C : Type 0} → SessionView L C → Bare
bare session = record {
  link = tt;
  received = session.received;
  request = session.request;
  refused = session.refused;
  body = session.body;
  reply = session.reply;
  keep = session.keep;
  settings = session.settings;
  budget = None;
  reusable = session.reusable;
  context = None;
  read_limit = session.read_limit;
}

-- nothing of a reply was taken up
pub record IsUnwritten (reply : Outgoing) : Type 0 where
  pub owed : reply.owed ≡ []
  pub free : reply.step ≡ step.Free
  pub headed : reply.headed ≡ false
  pub refused : reply.refused ≡ None
  pub sent : reply.sent ≡ 0
  pub write_since : reply.write_since ≡ None

-- a head is awaited, and nothing was read or taken up
pub record IsAwaitingIn (session : Bare) : Type 0 where
  pub request : session.request ≡ None
  pub refused : session.refused ≡ None
  pub unwritten : IsUnwritten session.reply
  pub kept : session.body.kept ≡ None
  pub body_refused : session.body.refused ≡ None
  pub waits : session.body.waits ≡ false
  pub undrained : session.body.since.drain ≡ None
  pub times : session.settings.times ≡ new_times
  pub read_limit : session.read_limit ≡ None

abbrev pub IsAwaiting : {L C : Type 0} → SessionView L C → Type 0
IsAwaiting session = IsAwaitingIn (bare session)

-- The exchange is that of the session's request, whose head the filters made, and all payload that
-- was read was handed in.
pub record IsAskedIn (e : Entry) (session : Bare) (request : Request) : Type 0 where
  pub is : session.request ≡ Some request
  pub filtered : e.filtered ≡ Some request.header
  pub head_only : request.head_only ≡ is_head e.head.method
  pub both : request.both ≡ e.both
  pub wish : request.wish ≡ wish e.head e.both
  pub reuses : session.settings.reuses ≡ e.began.reuses
  pub body_error : e.body_error ≡ session.body.refused
  pub read_limit : e.read_limit ≡ session.read_limit
  pub handed : e.handed ≡ length e.body
  pub kept : session.body.kept ≡ None
  pub waits : session.body.waits ≡ false
  pub undrained : session.body.since.drain ≡ None
  pub written : e.written ≡ session.reply.sent
  pub limit : e.written < 2 ^ 64

-- the application runs, and nothing of its reply is there
pub record IsAnsweringIn (e : Entry) (session : Bare) : Type 0 where
  pub request : Request
  pub asked : IsAskedIn e session request
  pub unwritten : IsUnwritten session.reply
  pub reply : e.reply ≡ None
  pub sent_head : e.sent_head ≡ None
  pub sent_body : e.sent_body ≡ None

abbrev pub IsAnswering : {L C : Type 0} → Entry → SessionView L C → Type 0
IsAnswering e session = IsAnsweringIn e (bare session)
