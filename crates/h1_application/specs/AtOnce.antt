-- The relation of an application that answers at once, by the head of a request alone.
use Rattle.std.specs.Prelude.{◌≡◌, [], Some, true, false}
use Rattle.h1_head.specs.Views.{RequestView}
use Rattle.h1_server.specs.Limit.{limited}
use Rattle.h1_server.specs.declared.settings.Settings.{Settings}
use Rattle.h1_transcript.specs.declared.reply.Reply.{Reply}
use Rattle.h1_transcript.specs.Given.{Given}
use Rattle.h1_transcript.specs.Lawful.{IsLawful, LawfulReplies}
use Rattle.h1_application.specs.declared.respond.TheConstants.{REPLY_TIME}

-- what is set for an answer at once
abbrev pub at_once : Settings → Settings
at_once began =
    record began {
      closing = false;
      pipelining = true;
      times = record began.times { write = limited (Some REPLY_TIME) };
    }

-- any reply that can be read, to any request
abbrev pub AnyLawful : RequestView → Reply → Type 0
AnyLawful head reply = IsLawful reply.header

-- The reply is one that is said for the head, and can be read; nothing was read of the body. Of what
-- was set as the job started three things changed: the next request may follow at once, what is left
-- of the body is drained, and the body of the reply has its time.
pub record AnswersAtOnce (says : RequestView → Reply → Type 0) (given : Given) (reply : Reply)
    : Type 0 where
  pub said : says given.head reply
  pub lawful : IsLawful reply.header
  pub unread : given.handed ≡ []
  pub left : given.left ≡ at_once given.began

pub at_once_is_lawful : (says : RequestView → Reply → Type 0) → LawfulReplies (AnswersAtOnce says)
at_once_is_lawful says given reply is = is.lawful
