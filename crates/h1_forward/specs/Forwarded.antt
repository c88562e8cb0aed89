-- A request that is read by one server, written by a client and read by another server (RFC 9110,
-- section 3.7; RFC 9112, sections 3 to 7).
use Rattle.std.specs.Prelude.{◌≡◌, ℕ, ◌≤◌, List, ◌++◌, length, drop, Bool, false, Some}
use Rattle.h1_body.specs.Body.{whole}
use Rattle.h1_body.specs.Framing.{framing}
use Rattle.h1_body.specs.Reader.{body}
use Rattle.h1_body.specs.Writer.{begun}
use Rattle.h1_head.specs.declared.limits.TheConstants.{MAX_HEADER_SIZE}
use Rattle.h1_head.specs.RequestHead.{HeadAt}
use Rattle.h1_head.specs.Views.{RequestView}
use Rattle.h1_head.specs.Wire.{request_bytes}
use Rattle.h1_transcript.specs.Stream.{Message}
use Rattle.h1_forward.specs.WrittenBody.{body_from}

-- a server read this request from the bytes, and its whole body, which has this payload
pub record IsReadFrom (bytes : List ℕ) (request : RequestView) (payload : List ℕ) : Type 0 where
  pub used : ℕ
  pub both : Bool
  pub head : HeadAt bytes used request both
  pub count : ℕ
  pub whole_body : body (framing request) (drop used bytes) ≡ whole payload count

-- A client writes these bytes for the request, whose body it is handed in these pieces: the head, and
-- behind it the pieces by the framing that the head states.
pub record IsWrittenAs (request : RequestView) (pieces : List (List ℕ)) (bytes : List ℕ)
    : Type 0 where
  pub front : List ℕ
  pub head : request_bytes request ≡ Some front
  pub parts : bytes ≡ front ++ body_from (begun (framing request)) pieces

-- the head that is written has at most so many bytes as a server reads of one
abbrev pub IsShortEnough : {request : RequestView} {pieces : List (List ℕ)} {bytes : List ℕ}
    → IsWrittenAs request pieces bytes → Type 0
IsShortEnough written = length written.front ≤ MAX_HEADER_SIZE

-- the request with a whole body that has this payload
abbrev pub message : RequestView → List ℕ → ℕ → Message
message request payload count =
    record { head = request; both = false; body = whole payload count }
