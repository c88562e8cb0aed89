-- What a session writes of a request, by the bytes that its link takes (RFC 9112, sections 3 and 6).
use Rattle.std.specs.Prelude.{◌≡◌, ◌≤◌, ℕ, List, [], ◌++◌, length, false, Option, Some, None}
use Rattle.std.specs.Io.KnownBytes.{append_known}
use Rattle.h1_body.specs.Writer.{after_piece, body_bytes, lacks, piece_bytes}
use Rattle.h1_client.specs.ClientView.{ClientView}
use Rattle.h1_client.specs.Words.{LinkState, RequestView, WriterView, Outgoing, Free, begun, framing, request_bytes}

-- the payload of a body, which is empty where there is none
abbrev pub payload_of : Option (List ℕ) → List ℕ
payload_of None = []
payload_of (Some body) = body

-- What a link took between two moments: the bytes of this request's head, and behind them this body,
-- framed as the head states it. It isn't shorter than the head states; what is longer is left out.
pub record Takes (before now : Option (List ℕ)) (request : RequestView) (body : Option (List ℕ))
    : Type 0 where
  pub front : List ℕ
  pub head : request_bytes request ≡ Some front
  pub took : now
      ≡ append_known before (front ++ body_bytes (framing request) (payload_of body))
  pub enough : lacks (Some (framing request)) (length (payload_of body)) ≡ false

-- all that a link took is flushed
abbrev pub IsFlushed : LinkState → Type 0
IsFlushed s = s.bytes_out ≤ s.flushed

-- since it had taken the bytes before, a link took these, but for those at their end that are owed
abbrev pub IsPut : {L : Type 0} → (L → LinkState) → Option (List ℕ) → List ℕ → L → Outgoing
    → Type 0
IsPut state before bytes link out =
    append_known (state link).written out.owed ≡ append_known before bytes

-- since then the head of a request was put, and behind it these bytes of its body by this writer
pub record Puts {L : Type 0} (state : L → LinkState) (before : Option (List ℕ))
    (request : RequestView) (writer : WriterView) (rest : List ℕ) (link : L) (out : Outgoing)
    : Type 0 where
  pub front : List ℕ
  pub head : request_bytes request ≡ Some front
  pub writer_is : out.writer ≡ writer
  pub put : IsPut state before (front ++ rest) link out

-- and no write is in progress
abbrev pub HasPut : {L : Type 0} → (L → LinkState) → Option (List ℕ) → RequestView → WriterView
    → List ℕ → ClientView L → Type 0
HasPut state before request writer rest s =
    Puts state before request writer rest s.transfer.link s.transfer.outgoing
    × (s.transfer.outgoing.step ≡ Free)

-- the writer behind a body that is handed in as one piece, and what it gave for it
abbrev pub writer_behind : RequestView → Option (List ℕ) → WriterView
writer_behind request None = begun (framing request)
writer_behind request (Some body) = after_piece (begun (framing request)) body

abbrev pub bytes_behind : RequestView → Option (List ℕ) → List ℕ
bytes_behind request None = []
bytes_behind request (Some body) = piece_bytes (begun (framing request)) body
