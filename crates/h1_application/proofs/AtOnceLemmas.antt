-- What is answered at once is what is said for the head of the request.
use Rattle.std.proofs.Common.{◌≡◌, ◌∙◌, [], subst, Option, Some, None, true, false, IfSome, IsSome, IfOk, IfErr, Result, Ok, Err}
use Rattle.std.proofs.lemmas.Bool.{false≢true}
use Rattle.h1_error.specs.Memory.{no_memory}
use Rattle.h1_error.specs.declared.error.Error.{Error}
use Rattle.h1_head.specs.Views.{RequestView}
use Rattle.h1_server.specs.Limit.{limited}
use Rattle.h1_server.specs.declared.request.Request.{Request}
use Rattle.h1_transcript.specs.Given.{Given}
use Rattle.h1_transcript.specs.Lawful.{IsLawful}
use Rattle.h1_transcript.specs.declared.reply.Reply.{Reply}
use Rattle.h1_application.specs.Words.{Ready, SessionView, Settings}
use Rattle.h1_application.specs.Application.{GivesReply, IsAskedFor, given_by, payload_of}
use Rattle.h1_application.specs.AtOnce.{AnswersAtOnce, at_once}
use Rattle.h1_application.specs.declared.respond.TheConstants.{REPLY_TIME}

-- the head that was asked for is the one that is shown
shown_head : {L C : Type 0} (old new : SessionView L C) (head seen : RequestView)
    → IsSome old.request → new.request ≡ old.request → IsAskedFor head old
    → IfSome new.request (λ request. seen ≡ request.header) → seen ≡ head
shown_head {L} {C} old new head seen some same asked shows = by old.request some same asked
  where
    by : (request : Option Request) → IsSome request → new.request ≡ request
        → IfSome request (λ r. r.header ≡ head) → seen ≡ head
    by None some is asked = absurd (false≢true some)
    by (Some request) some is asked = subst (λ o. IfSome o (λ r. seen ≡ r.header)) is shows ∙ asked

gives : (says : RequestView → Reply → Type 0) (given : Given) (result : Result Reply Error)
    → IfOk result (λ reply. says given.head reply) → IfOk result (λ reply. IsLawful reply.header)
    → IfErr result (λ error. error ≡ no_memory) → given.handed ≡ []
    → given.left ≡ at_once given.began
    → GivesReply (AnswersAtOnce says) given (λ error. error ≡ no_memory) (Ready result)
gives says given (Ok reply) said lawful memory unread left = record {
  said = said;
  lawful = lawful;
  unread = unread;
  left = left;
}
gives says given (Err error) said lawful memory unread left = memory

pub answered : {L C : Type 0} (says : RequestView → Reply → Type 0) (head : RequestView)
    (old new : SessionView L C) (began : Settings) (result : Result Reply Error)
    (seen : RequestView) → IsSome old.request → new.request ≡ old.request → IsAskedFor head old
    → IfSome new.request (λ request. seen ≡ request.header)
    → IfOk result (λ reply. says seen reply) → IfOk result (λ reply. IsLawful reply.header)
    → IfErr result (λ error. error ≡ no_memory) → payload_of new ≡ []
    → new.settings ≡ at_once began
    → GivesReply (AnswersAtOnce says) (given_by head began new) (λ error. error ≡ no_memory)
    (Ready result)
answered says head old new began result seen some same asked shows said lawful memory unread left =
    gives says (given_by head began new) result
    (subst (λ h. IfOk result (λ reply. says h reply))
    (shown_head old new head seen some same asked shows) said) lawful memory unread left
