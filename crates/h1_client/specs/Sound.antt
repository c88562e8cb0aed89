-- What holds of a client's session between its calls.
use Rattle.std.specs.Prelude.{◌≡◌, ℕ, List, [], ◌++◌, ◌==◌, ◌&&◌, length, true, false, Option, Some, None}
use Rattle.h1_client.specs.Words.{RequestView, ResponseView, LinkState, WriterView, BodyReader, HeadSearch, HasLooked, MAX_HEADER_SIZE, Outgoing, request_bytes, framing, body, reads, ahead, IsAccepted, is_interim, until_close}
use Rattle.h1_client.specs.Written.{WritesSoFar}
use Rattle.h1_client.specs.Responses.{framing_to, is_upgraded, wishes_upgrade}
use Rattle.h1_client.specs.Exchanges.{AreInterim}
use Rattle.h1_client.specs.Holds.{Holds}
use Rattle.h1_client.specs.declared.keeping.Keepalive.{Keepalive}
use Rattle.h1_client.specs.declared.keeping.Keepalive.TheVariants.{Off, On}

-- what was taken up of the request: its head, and behind it so much of its body
pub record AsksSoFar (request : RequestView) (writer : WriterView) (bytes : List ℕ) : Type 0 where
  pub front : List ℕ
  pub rest : List ℕ
  pub parts : bytes ≡ front ++ rest
  pub head : request_bytes request ≡ Some front
  pub body : WritesSoFar (framing request) writer rest

abbrev pub Asks : Option RequestView → WriterView → List ℕ → Type 0
Asks None writer bytes = bytes ≡ []
Asks (Some request) writer bytes = AsksSoFar request writer bytes

-- interim responses, and behind them a final head with so much of its body as the reader has read
pub record AnswersSoFar (request : RequestView) (said : ResponseView) (reader : BodyReader)
    (bytes : List ℕ) : Type 0 where
  pub heads : List (List ℕ)
  pub interim : List ℕ
  pub front : List ℕ
  pub rest : List ℕ
  pub parts : bytes ≡ interim ++ (front ++ rest)
  pub before : AreInterim heads interim
  pub head : IsAccepted front said
  pub final : is_interim said.status ≡ false
  pub payload : List ℕ
  pub reads_on : (more : List ℕ) → body (framing_to request said) (rest ++ more)
      ≡ ahead payload (length rest) (reads reader more)

-- the bytes that were used of the responses
abbrev pub Answers : Option RequestView → Option ResponseView → BodyReader → List ℕ → Type 0
Answers None final reader bytes = (bytes ≡ []) × (final ≡ None)
Answers (Some request) None reader bytes = (heads : List (List ℕ)) × AreInterim heads bytes
Answers (Some request) (Some said) reader bytes = AnswersSoFar request said reader bytes

-- until the final head is read, the search has looked at a front of what is received
abbrev pub IsSearched : Option ResponseView → HeadSearch → List ℕ → Type 0
IsSearched None search received = HasLooked MAX_HEADER_SIZE search received
IsSearched (Some said) search received = Unit {0}

-- a link isn't kept behind another protocol
abbrev pub StaysHttp : Keepalive → Option ResponseView → Type 0
StaysHttp Off final = Unit {0}
StaysHttp (On deadline) None = ⊥
StaysHttp (On deadline) (Some said) = (said.status == 101) ≡ false

-- The bytes of one exchange, as far as it went: what was taken up of the request, and what was used
-- of the responses.
pub record Exchanging (s : LinkState) (received : List ℕ) (request : Option RequestView)
    (final : Option ResponseView) (reader : BodyReader) (out : Outgoing) : Type 0 where
  pub asked : List ℕ
  pub used : List ℕ
  pub holds : Holds s out.owed received asked used
  pub asks : Asks request out.writer asked
  pub answers : Answers request final reader used

-- Until the request's body passes as it is, the bytes are those of one exchange. It passes so only
-- behind a change of the protocol, and nothing is said of the bytes of the other one.
pub record Sound (s : LinkState) (received : List ℕ) (search : HeadSearch)
    (request : Option RequestView) (final : Option ResponseView) (reader : BodyReader)
    (out : Outgoing) (keepalive : Keepalive) : Type 0 where
  pub http : until_close out.writer.framing ≡ false
      → Exchanging s received request final reader out
  pub changed : until_close out.writer.framing ≡ true
      → (wishes_upgrade request && is_upgraded final) ≡ true
  pub searched : IsSearched final search received
  pub stays : StaysHttp keepalive final
