-- How a session and the exchange that is last stand to each other once the application replied.
use Rattle.std.specs.Prelude.{◌≡◌, ℕ, ◌^◌, ◌<◌, List, [], true, false, Some, None}
use Rattle.h1_app.specs.Words.{wish, WriterView, begun, after_piece, is_replied, may_follow, SessionView, out, whole, reads, is_until_close, Request, Step, Reply, Entry, how_of, is_short, shown}
use Rattle.h1_body.specs.Writer as writer
use Rattle.h1_app.specs.Accounted.{coming}
use Rattle.h1_transfer.specs.declared.outgoing.Step.TheVariants as step
use Rattle.h1_app.specs.Answering.{Bare, bare, IsAskedIn}

-- the application replied, and the session stands as it left it
pub record IsRepliedIn (e : Entry) (session : Bare) (request : Request)
    (reply : Reply) : Type 0 where
  pub asked : IsAskedIn e session request
  pub is : e.reply ≡ Some reply
  pub how : e.how ≡ how_of session.body
  pub left : e.left ≡ session.settings

abbrev pub IsReplied : {L C : Type 0} → Entry → SessionView L C → Request → Reply → Type 0
IsReplied e session request reply = IsRepliedIn e (bare session) request reply

-- the header of what the filters made of the reply was taken up
pub record IsHeadedIn (e : Entry) (session : Bare) (sent : Reply) : Type 0 where
  pub sent_head : e.sent_head ≡ Some sent.header
  pub headed : session.reply.headed ≡ true
  pub keep : e.keep ≡ session.keep
  pub refused : session.reply.refused ≡ None
  pub owed : e.owed ≡ true

abbrev pub IsHeaded : {L C : Type 0} → Entry → SessionView L C → Reply → Type 0
IsHeaded e session sent = IsHeadedIn e (bare session) sent

-- the body of it is what goes out: nothing where that of the reply was empty
abbrev pub IsBodied : Entry → Reply → Type 0
IsBodied e sent = (bytes : List ℕ) × (e.sent_body ≡ Some bytes) × (sent.body ≡ shown e.reply bytes)

-- the writer of the reply's body, with nothing taken up yet
abbrev pub fresh : Entry → Reply → WriterView
fresh e sent = begun (out e.head.method sent.header)

-- the same with the payload taken up
abbrev pub filled : Entry → Reply → WriterView
filled e sent = after_piece (fresh e sent) sent.body

-- the end is not taken up yet, or it is owed, as of a reply that isn't short
abbrev pub IsFinishing : {L C : Type 0} → Entry → SessionView L C → Reply → Step → Type 0
IsFinishing e session sent step.Free =
    (session.reply.owed ≡ []) × (session.reply.writer ≡ filled e sent)
IsFinishing e session sent step.Finish =
    (session.reply.writer ≡ record (filled e sent) { ended = true })
    × (writer.is_short (filled e sent) ≡ false)
IsFinishing e session sent step.Head = ⊥
IsFinishing e session sent (step.Piece count) = ⊥

-- The reply was written whole and flushed, and the request's body was not refused: what is left of
-- the body may still be read.
pub record IsDrainingIn (e : Entry) (session : Bare) : Type 0 where
  pub request : Request
  pub is : session.request ≡ Some request
  pub wish : request.wish ≡ wish e.head e.both
  pub reply : Reply
  pub replied : e.reply ≡ Some reply
  pub left : e.left ≡ session.settings
  pub sent : Reply
  pub sent_head : e.sent_head ≡ Some sent.header
  pub sent_body : IsBodied e sent
  pub headed : session.reply.headed ≡ true
  pub keep : e.keep ≡ session.keep
  pub framing : session.reply.writer.framing ≡ Some (out e.head.method sent.header)
  pub whole : is_replied session.reply ≡ true
  pub nothing : coming e.sent_body session.reply.writer ≡ []
  pub free : session.reply.step ≡ step.Free
  pub reply_owed : session.reply.owed ≡ []
  pub owed : e.owed ≡ false
  pub unrefused : e.body_error ≡ None
  pub body : session.body.refused ≡ None
  pub kept : session.body.kept ≡ None
  pub waits : session.body.waits ≡ false
  pub written : e.written ≡ session.reply.sent
  pub limit : e.written < 2 ^ 64
  pub long : is_short e ≡ false

abbrev pub IsDraining : {L C : Type 0} → Entry → SessionView L C → Type 0
IsDraining e session = IsDrainingIn e (bare session)

-- nothing is left of the exchange, and its link serves the next request
pub record MayGoOnIn (e : Entry) (session : Bare) : Type 0 where
  pub read : reads session.body.reader [] ≡ whole [] 0
  pub keep : e.keep ≡ true
  pub closes : is_until_close e ≡ false
  pub reusable : session.reusable ≡ true
  -- with pipelining off, nothing was received after the request
  pub alone : may_follow session.settings.pipelining session.received ≡ true

abbrev pub MayGoOn : {L C : Type 0} → Entry → SessionView L C → Type 0
MayGoOn e session = MayGoOnIn e (bare session)
