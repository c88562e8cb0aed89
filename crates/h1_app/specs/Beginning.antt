-- What an exchange begins with.
use Rattle.std.specs.Prelude.{◌≡◌, ◌⊎◌, ℕ, ◌<◌, List, [], length, replicate, Bool, false, Option, Some, None, Result, Ok, Err}
use Rattle.h1_modules.specs.Outcome.{ErrsBy, refused_by}
use Rattle.h1_server.specs.Keepalive.{keepalive_set}
use Rattle.h1_transcript.specs.Begun.{head_time}
use Rattle.h1_transcript.specs.Entries.{TranscriptView, with_last}
use Rattle.h1_app.specs.Filtering.{Chain, behind_request}
use Rattle.h1_app.specs.Words.{RequestView, SessionView, Settings, Request, Entry, Open, Stage, Outcome, Error, ErrorType, no_memory}
use Rattle.h1_application.specs.Application.{Runs}
use Rattle.h1_app.specs.declared.exchange.Stage.TheVariants as stage
use Rattle.h1_app.specs.declared.exchange.Outcome.TheVariants as outcome
use Rattle.h1_error.specs.declared.progress.End.TheVariants as end
use Rattle.h1_error.specs.declared.error.ErrorType.TheVariants.{PrematureBodyEnd}

-- an exchange of which nothing was read after its head, which the filters are given next
pub record IsNewEntry (request : Request) (settings : Settings) (e : Entry) : Type 0 where
  pub head : e.head ≡ request.header
  pub both : e.both ≡ request.both
  pub body : e.body ≡ []
  pub handed : e.handed ≡ 0
  pub body_error : e.body_error ≡ None
  pub read_limit : e.read_limit ≡ None
  pub reply : e.reply ≡ None
  pub sent_head : e.sent_head ≡ None
  pub sent_body : e.sent_body ≡ None
  pub date : e.date ≡ 0
  pub date_text : e.date_text ≡ replicate 29 0
  pub keep : e.keep ≡ false
  pub written : e.written ≡ 0
  pub how : e.how ≡ Open
  pub owed : e.owed ≡ false
  pub began : e.began ≡ settings
  pub left : e.left ≡ settings

-- an empty body is no piece
abbrev pub IsPieceOf : List ℕ → Option (List ℕ) → Type 0
IsPieceOf body None = body ≡ []
IsPieceOf body (Some piece) = (piece ≡ body) × (0 < length body)

-- a short reply ends with the error of the request's body, where there is one
abbrev pub failure_of : Option Error → Error → Error
failure_of body_error error = choice body_error error error.kind where
  choice : Option Error → Error → ErrorType → Error
  choice None error short = error
  choice (Some body_error) error PrematureBodyEnd = body_error
  choice (Some body_error) error _ = error

abbrev pub IsAnswerStage : {J : Type 0} → Stage J → Type 0
IsAnswerStage (stage.Answer job) = Unit {0}
IsAnswerStage _ = ⊥

-- what holds of the exchange that goes on
abbrev pub IfLast : Option Entry → (Entry → Type 0) → Type 0
IfLast last P = (e : Entry) × (last ≡ Some e) × P e

-- keep-alive was set again behind the head
abbrev pub kept_again : {L C : Type 0} → Bool → SessionView L C → SessionView L C
kept_again shutdown session =
    record session { settings = keepalive_set session.settings (head_time shutdown) }

-- the session with what the filters made of its request's head
abbrev pub with_filtered : {L C : Type 0} → SessionView L C → Request → RequestView → SessionView L C
with_filtered session request head =
    record session { request = Some (record request { header = head }) }

-- an exchange began with this request, and its filters were given the head of it
pub record BeginsFiltered {L C : Type 0} (old new : SessionView L C) (request : Request) (e : Entry)
    (head : RequestView) : Type 0 where
  pub is : old.request ≡ Some request
  pub session : new ≡ with_filtered old request head
  pub entry : IsNewEntry request old.settings e

-- the exchange that goes on began with this request, whose head is so far the application's too
pub record BegunFor (asked : Option Request) (last : Option Entry) : Type 0 where
  pub request : Request
  pub e : Entry
  pub is : asked ≡ Some request
  pub goes_on : last ≡ Some e
  pub given : e.filtered ≡ Some request.header

-- the filters were given its head, and what they made of it is noted
pub record HeadFiltered {L C M : Type 0} (chain : Chain M) (old new : SessionView L C)
    (modules : List M) (before after : TranscriptView) : Type 0 where
  pub request : Request
  pub e : Entry
  pub head : RequestView
  pub is : old.request ≡ Some request
  pub session : new ≡ with_filtered old request head
  pub goes_on : before.last ≡ Some e
  pub noted : after ≡ with_last before (record e { filtered = Some head })
  pub behind : behind_request chain request.header ≡ Ok (modules, head)

-- a filter refused it, or there is no memory for them, and the application has no head
pub record HeadRefused {L C M : Type 0} (chain : Chain M) (old new : SessionView L C)
    (before after : TranscriptView) (error : Error) : Type 0 where
  pub request : Request
  pub e : Entry
  pub head : RequestView
  pub is : old.request ≡ Some request
  pub session : new ≡ with_filtered old request head
  pub goes_on : before.last ≡ Some e
  pub noted : after ≡ with_last before (record e { filtered = None })
  pub why : ErrsBy refused_by (behind_request chain request.header) error

-- its application was started for the head that the filters made
pub record StartedWith {L C J M : Type 0} (begins : J → Type 0)
    (runs : Runs J) (chain : Chain M)
    (old new : SessionView L C) (modules : List M) (e : Entry) (job : J) : Type 0 where
  pub request : Request
  pub head : RequestView
  pub begun : BeginsFiltered old new request e head
  pub filtered : e.filtered ≡ Some head
  pub behind : behind_request chain request.header ≡ Ok (modules, head)
  pub fresh : begins job
  pub running : runs job head old.settings old.settings [] None

-- it was not: a filter refused the head, or there is no memory
pub record NotStarted {L C M : Type 0} (chain : Chain M) (old new : SessionView L C) (e : Entry)
    (error : Error) : Type 0 where
  pub request : Request
  pub head : RequestView
  pub begun : BeginsFiltered old new request e head
  pub filtered : e.filtered ≡ None
  pub why : ErrsBy refused_by (behind_request chain request.header) error

-- no exchange began, for want of memory
pub record NotBegun {L C : Type 0} (old new : SessionView L C) (last : Option Entry)
    (error : Error) : Type 0 where
  pub session : new ≡ old
  pub none : last ≡ None
  pub memory : error ≡ no_memory

-- what becomes of a head that was read: the exchange begins and the application is started, or not
abbrev pub StartedAs : {L C J M : Type 0} → (J → Type 0)
    → Runs J → Chain M → SessionView L C
    → SessionView L C → List M → Option Entry → Result J Error → Type 0
StartedAs begins runs chain old new modules last (Ok job) =
    (e : Entry) × (last ≡ Some e) × StartedWith begins runs chain old new modules e job
StartedAs begins runs chain old new modules last (Err error) = NotBegun old new last error
    ⊎ ((e : Entry) × (last ≡ Some e) × NotStarted chain old new e error)

-- the stage and the outcome after it
abbrev pub StandsBegun : {J : Type 0} → Result J Error → Stage J → Outcome → Type 0
StandsBegun (Ok job) at result = (at ≡ stage.Answer job) × (result ≡ outcome.Done)
StandsBegun (Err error) at result = (at ≡ stage.Head) × (result ≡ outcome.Ends (end.Failed error))

-- the same after keep-alive was set again
abbrev pub BegunAs : {L C J M : Type 0} → (J → Type 0)
    → Runs J → Chain M → SessionView L C
    → SessionView L C → List M → Option Entry → Stage J → Outcome → Type 0
BegunAs {L} {C} {J} begins runs chain old new modules last at result =
    (started : Result J Error) × StartedAs begins runs chain old new modules last started
    × StandsBegun started at result
