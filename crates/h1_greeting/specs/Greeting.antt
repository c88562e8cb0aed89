-- What the application that greets replies.
use Rattle.std.specs.Prelude.{◌≡◌, [], ◌∷◌, true, codes}
use Rattle.h1_head.specs.Response.{new_response}
use Rattle.h1_transcript.specs.declared.reply.Reply.{Reply}
use Rattle.h1_transcript.specs.Given.{Given}

abbrev pub greeting : Reply
greeting =
    record {
      header = record (new_response 200)
          { fields = (codes "content-length", codes "6") ∷ [] };
      body = codes "hello\n";
    }

-- every request is greeted, of its body nothing is read, and pipelining is on from then
pub record Greeting (given : Given) (reply : Reply) : Type 0 where
  pub is : reply ≡ greeting
  pub handed : given.handed ≡ []
  pub left : given.left ≡ record given.began { pipelining = true }
