-- What is sent where each header is stamped.
use Rattle.std.specs.Prelude.{[], ◌∷◌, ◌++◌, Ok, codes}
use Rattle.h1_head.specs.Views.{ResponseView}
use Rattle.h1_transcript.specs.Rules.{Rules}
use Rattle.h1_greeting.specs.Greeting.{Greeting}

-- the line `x-served-by: greeting` stands behind all others
abbrev pub stamped : ResponseView → ResponseView
stamped header =
    record header { fields = header.fields ++ (codes "x-served-by", codes "greeting") ∷ [] }

-- Every request is greeted and none refused. The header of each greeting is stamped, and no body is
-- changed.
abbrev pub stamped_greeting : Rules
stamped_greeting = record {
  gives = Greeting;
  filters = record {
    request = λ head. Ok head;
    header = λ head reply. Ok (stamped reply.header);
    body = λ head reply. Ok reply.body;
  };
}
