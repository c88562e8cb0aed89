-- How an exchange that is over joins those before it (RFC 9112, section 9.3.2).
use Rattle.std.specs.Prelude.{◌≡◌, ◌++◌, [], true, false, None, IsSome, option_to_list}
use Rattle.h1_app.specs.Words.{whole, reads, AwaitsNext, SessionView, Entry, Exchange, is_until_close, is_short}
use Rattle.h1_app.specs.declared.exchange.Stage.TheVariants as stage
use Rattle.h1_app.specs.Accounted.{coming}

-- the request was read whole, and the reply was written whole and flushed
pub record IsDoneIn {L C : Type 0} (session : SessionView L C) (e : Entry) : Type 0 where
  pub read : reads session.body.reader [] ≡ whole [] 0
  pub unrefused : e.body_error ≡ None
  pub owed : session.reply.owed ≡ []
  pub nothing : coming e.sent_body session.reply.writer ≡ []
  pub written : e.written ≡ session.reply.sent
  pub flushed : e.owed ≡ false
  pub sent_head : IsSome e.sent_head
  pub sent_body : IsSome e.sent_body
  pub long : is_short e ≡ false
  pub keep : e.keep ≡ true
  pub closes : is_until_close e ≡ false

-- the session awaits the next head
pub record IsRestarted {L C : Type 0} (old new : SessionView L C) : Type 0 where
  pub link : new.link ≡ old.link
  pub received : new.received ≡ old.received
  pub request : new.request ≡ None
  pub owed : new.reply.owed ≡ []
  pub sent : new.reply.sent ≡ 0

-- the last exchange joined those that ended, and the next head is awaited
pub record JoinsNext {L C J : Type 0} (old new : Exchange L J C) : Type 0 where
  pub awaits : AwaitsNext old.session new.session
  pub done : new.transcript.done ≡ old.transcript.done ++ option_to_list old.transcript.last
  pub last : new.transcript.last ≡ None
  pub holding : new.transcript.holding ≡ old.transcript.holding
  pub stage : new.stage ≡ stage.Head
