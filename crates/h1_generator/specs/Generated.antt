-- The input of `gen N`: requests 1 to N, one after the other (RFC 9112, sections 3, 6 and 7.1).
use Rattle.std.specs.Prelude.{ℕ, zero, suc, ◌+◌, ◌%◌, ◌==◌, List, [], ◌∷◌, ◌++◌, codes, replicate, if◌then◌else◌}
use Rattle.std.specs.Fmt.{decimal}
use Rattle.std.specs.List.{flat_map}
use Rattle.h1_fields.specs.Lines.{Line, print_lines}
use Rattle.h1_head.specs.Request.{new_request}
use Rattle.h1_head.specs.Views.{RequestView}
use Rattle.h1_body.specs.Writer.{body_bytes}
use Rattle.h1_body.specs.declared.framing.Framing.{Framing}
use Rattle.h1_body.specs.declared.framing.Framing.TheVariants as framing
use Rattle.h1_generator.specs.declared.generator.Form.{Form}
use Rattle.h1_generator.specs.declared.generator.Form.TheVariants.{Plain, Counted, Chunked}
use Rattle.h1_generator.specs.declared.generator.TheConstants.{SIZES}

-- a request that is made: its line and fields, and how its payload is framed
pub record Asked : Type 0 where
  pub method : List ℕ
  pub target : List ℕ
  pub lines : List Line
  pub framing : Framing
  pub payload : List ℕ

-- every third request has no body, the next one a length, and the one after that chunks
abbrev pub form_of : ℕ → Form
form_of number =
    if number % 3 == 1 then Plain else (if number % 3 == 2 then Counted else Chunked)

-- /N
abbrev pub target_of : ℕ → List ℕ
target_of number = 47 ∷ decimal number

-- a request of this form, with this number and so many bytes of payload
abbrev pub asked_as : Form → ℕ → ℕ → Asked
asked_as Plain number size = record {
  method = codes "GET";
  target = target_of number;
  lines = [];
  framing = framing.Counted 0;
  payload = [];
}
asked_as Counted number size = record {
  method = codes "POST";
  target = target_of number;
  lines = (codes "Content-Length", decimal size) ∷ [];
  framing = framing.Counted size;
  payload = replicate size 97;
}
asked_as Chunked number size = record {
  method = codes "POST";
  target = target_of number;
  lines = (codes "Transfer-Encoding", codes "chunked") ∷ [];
  framing = framing.Chunked;
  payload = replicate size 98;
}

-- the request with this number
abbrev pub asked : ℕ → Asked
asked number = asked_as (form_of number) number (number % SIZES)

-- method SP target SP HTTP/1.1 CRLF, the field lines, CRLF
abbrev pub print_head : Asked → List ℕ
print_head a =
    a.method ++ 32 ∷ a.target ++ codes " HTTP/1.1" ++ (13 ∷ 10 ∷ []) ++ print_lines a.lines
    ++ (13 ∷ 10 ∷ [])

-- the head, and the payload as it is framed
abbrev pub print_asked : Asked → List ℕ
print_asked a = print_head a ++ body_bytes a.framing a.payload

-- so many requests, from this number on
abbrev pub asked_from : ℕ → ℕ → List Asked
asked_from number zero = []
asked_from number (suc more) = asked number ∷ asked_from (number + 1) more

abbrev pub generated_from : ℕ → ℕ → List ℕ
generated_from number count = flat_map print_asked (asked_from number count)

-- requests 1 to N
abbrev pub generated : ℕ → List ℕ
generated count = generated_from 1 count

-- what a head says
abbrev pub head_of : Asked → RequestView
head_of a = record (new_request a.method a.target) { fields = a.lines }
