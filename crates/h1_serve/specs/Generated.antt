-- The text of `gen N`: requests that are made and served, told in numbers.
use Rattle.std.specs.Prelude.{◌≡◌, ℕ, List, [], ◌∷◌, ◌++◌, length, codes, Some}
use Rattle.std.specs.Fmt.{decimal}
use Rattle.std.specs.List.{flat_map}
use Rattle.h1_error.specs.declared.progress.End.TheVariants as end
use Rattle.h1_error.specs.declared.progress.Progress.TheVariants as progress
use Rattle.h1_words.specs.Report.{answer_text}
use Rattle.h1_body.specs.Body.{payload_of}
use Rattle.h1_transcript.specs.Stream.{Message}
use Rattle.h1_transcript.specs.Entries.{bodies}
use Rattle.h1_app.specs.View.{entries}
use Rattle.h1_generator.specs.Messages.{messages}
use Rattle.h1_serving.specs.Whole.{IsServedWhole}
use Rattle.h1_serving.specs.Served.{EchoedView}
use Rattle.h1_link.specs.MemState.{MemState}

-- the payloads of these requests
abbrev pub payloads : List Message → List ℕ
payloads requests = flat_map (λ m. payload_of m.body) requests

-- NAME N
abbrev pub count_line : List ℕ → ℕ → List ℕ
count_line name number = name ++ decimal number ++ (10 ∷ [])

-- requests N, body bytes B, written W, and that the connection finished
abbrev pub gen_lines : ℕ → ℕ → ℕ → List ℕ
gen_lines requests body written =
    count_line (codes "requests ") requests ++ count_line (codes "body bytes ") body
    ++ count_line (codes "written ") written ++ answer_text (progress.Ready end.Finished)
    ++ (10 ∷ [])

-- the text tells of a connection that finished what it read and wrote
pub record TellsServed (served : EchoedView MemState) (text : List ℕ) : Type 0 where
  pub written : List ℕ
  pub told : served.session.link.state.written ≡ Some written
  pub is : text ≡ gen_lines (length (entries served)) (length (bodies (entries served)))
      (length written)

-- A connection served so many requests that are made, each whole. The text tells their count, how
-- many bytes of payload they have, and how many bytes the connection's link took.
pub record IsGenText (count : ℕ) (text : List ℕ) : Type 0 where
  pub served : EchoedView MemState
  pub whole : IsServedWhole count served
  pub written : List ℕ
  pub told : served.session.link.state.written ≡ Some written
  pub is : text ≡ gen_lines count (length (payloads (messages count))) (length written)
