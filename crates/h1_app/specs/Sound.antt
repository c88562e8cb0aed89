-- What always holds of a connection: each stage stands where the session and the last exchange do.
use Rattle.std.specs.Prelude.{◌≡◌, ℕ, List, [], ◌++◌, false, Option, Some, None, IfSome, IfNone, option_to_list}
use Rattle.h1_app.specs.Words.{AllByRecursion, End, SessionView, AreBegun, IsNextSet, Request, Reply, Entry, Stage, Rules, IsAllowed, Terms}
use Rattle.h1_application.specs.Application.{Runs}
use Rattle.h1_transfer.specs.declared.outgoing.Step.TheVariants as step
use Rattle.h1_app.specs.declared.exchange.Stage.TheVariants as stage
use Rattle.h1_app.specs.Answering.{IsUnwritten, IsAwaiting, IsAnswering}
use Rattle.h1_app.specs.Replied.{IsReplied, IsHeaded, IsBodied, fresh, filled, IsFinishing, IsDraining, MayGoOn}

-- the stage that the connection is in, against its last exchange
abbrev pub SoundStage : {L C J : Type 0} → Runs J
    → SessionView L C → Option Entry → Stage J → Type 0
SoundStage runs session last stage.Head = (last ≡ None) × IsAwaiting session
SoundStage runs session last (stage.Answer job) =
    (e : Entry) × (last ≡ Some e) × (answering : IsAnswering e session)
    × runs job answering.request.header e.began session.settings e.body session.read_limit
SoundStage runs session last stage.TakeHeader =
    (e : Entry) × (last ≡ Some e) × (request : Request) × (reply : Reply)
    × IsReplied e session request reply
    × IsUnwritten session.reply × (e.sent_head ≡ None) × (e.sent_body ≡ None)
SoundStage runs session last stage.Header =
    (e : Entry) × (last ≡ Some e) × (request : Request) × (reply : Reply) × (sent : Reply)
    × IsReplied e session request reply
    × IsHeaded e session sent × (e.sent_body ≡ None) × (session.reply.writer ≡ fresh e sent)
    × (session.reply.step ≡ step.Head) × (session.reply.write_since ≡ None)
SoundStage runs session last stage.TakeBody =
    (e : Entry) × (last ≡ Some e) × (request : Request) × (reply : Reply) × (sent : Reply)
    × IsReplied e session request reply
    × IsHeaded e session sent × (e.sent_body ≡ None) × (session.reply.writer ≡ fresh e sent)
    × (session.reply.step ≡ step.Free) × (session.reply.owed ≡ [])
    × (session.reply.write_since ≡ None)
SoundStage runs session last stage.Body =
    (e : Entry) × (last ≡ Some e) × (request : Request) × (reply : Reply) × (sent : Reply)
    × IsReplied e session request reply
    × IsHeaded e session sent × IsBodied e sent
    × (session.reply.writer ≡ filled e sent)
    × ((count : Option ℕ) × (session.reply.step ≡ step.Piece count))
SoundStage runs session last stage.Finish =
    (e : Entry) × (last ≡ Some e) × (request : Request) × (reply : Reply) × (sent : Reply)
    × IsReplied e session request reply
    × IsHeaded e session sent × IsBodied e sent
    × IsFinishing e session sent session.reply.step
SoundStage runs session last stage.Drain = (e : Entry) × (last ≡ Some e) × IsDraining e session
SoundStage runs session last stage.Next =
    (e : Entry) × (last ≡ Some e) × IsDraining e session × MayGoOn e session

-- an exchange says how much of its reply the session wrote
abbrev pub IsKept : {L C : Type 0} → SessionView L C → Entry → Type 0
IsKept session e = e.written ≡ session.reply.sent

-- the stages whose step is one of the exchange that is last
abbrev pub IsInWork : {J : Type 0} → Stage J → Type 0
IsInWork stage.Next = ⊥
IsInWork _ = Unit {0}

-- what holds where the next head is awaited
abbrev pub IfAwaiting : {J : Type 0} → Stage J → Type 0 → Type 0
IfAwaiting stage.Head P = P
IfAwaiting _ P = Unit {0}

-- Every exchange is allowed, and began as the one before it left what is set; and while the
-- connection goes on, its stage is sound.
pub record Sound {L C J : Type 0} (rules : Rules)
    (runs : Runs J) (terms : Terms)
    (session : SessionView L C) (done : List Entry) (last : Option Entry) (at : Stage J)
    (end : Option End) : Type 0 where
  pub ended : AllByRecursion (IsAllowed rules) done
  pub allowed : IfSome last (IsAllowed rules)
  pub kept : IfSome last (IsKept session)
  pub begun : AreBegun terms 0 false (done ++ option_to_list last)
  pub stage : IfNone end (SoundStage runs session last at)
  pub next : IfNone end (IfAwaiting at (IsNextSet terms done session.settings))
