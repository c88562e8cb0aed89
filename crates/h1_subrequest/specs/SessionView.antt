-- What contracts see of a subrequest's session.
use Rattle.std.specs.Prelude.{◌≡◌, ℕ, Bool, false, List, Option, Some, None, is_some, not, if◌then◌else◌}
use Rattle.h1_subrequest.specs.Words.{BodyMode, Error, ParseState, RequestView, ResponseView}
use Rattle.h1_subrequest.specs.declared.body_mode.BodyMode.TheVariants as mode
use Rattle.h1_subrequest.specs.declared.parse_state.ParseState.TheVariants as parse
use Rattle.h1_subrequest.specs.ReadBody.{is_unset}

-- a request, as its head is now and as it was read; the bodies follow the head as it was read
pub record Asked : Type 0 where
  pub header : RequestView
  pub read : RequestView

pub record SubSession (X R : Type 0) : Type 0 where
  -- the ends of the rings, and whether they were closed
  pub tx : X
  pub rx : R
  pub shut : Bool
  -- the bytes that the head is read from
  pub raw : List ℕ
  -- the request, once its head was read
  pub request : Option Asked
  -- the fields that tell of a body are off, or will be once the head is read
  pub cleared : Bool
  pub reader : ParseState
  -- a call has asked the reader
  pub used : Bool
  -- the refusal that each later read of the body answers
  pub read_refused : Option Error
  pub writer : BodyMode
  -- the refusal that each later write answers
  pub write_refused : Option Error
  -- the header that was put last
  pub written : Option ResponseView
  -- the first error that the proxy had
  pub failure : Option Error

-- the request of a session that has read a head, or none yet
abbrev pub request_in : Bool → RequestView → RequestView → Option Asked
request_in is_read header read =
    if is_read then Some (record { header = header; read = read }) else None

-- Both ends are closed together, and the reader is set with the head.
pub record Sound (tx_closed rx_closed shut : Bool) (request : Option Asked) (reader : ParseState)
    : Type 0 where
  pub tx : tx_closed ≡ shut
  pub rx : rx_closed ≡ shut
  pub set : is_unset reader ≡ not (is_some request)

-- a session that has read no head and put no task
abbrev pub new_session : {X R : Type 0} → List ℕ → X → R → SubSession X R
new_session raw tx rx = record {
  tx = tx;
  rx = rx;
  shut = false;
  raw = raw;
  request = None;
  cleared = false;
  reader = parse.ToStart;
  used = false;
  read_refused = None;
  writer = mode.ToSelect;
  write_refused = None;
  written = None;
  failure = None;
}

-- the first error stays
abbrev pub first_failure : Option Error → Error → Option Error
first_failure None error = Some error
first_failure (Some first) error = Some first
