-- Writing the head of a reply (RFC 9112, section 4).
use Rattle.std.specs.Prelude.{◌≡◌, ℕ, ◌<◌, ◌≤◌, ◌/◌, List, [], length, Bool, true, false, Option, Some, None, Result, Ok, Err, IsTrue, if◌then◌else◌}
use Rattle.h1_server.specs.Words.{Poll, Ready, Pending, Error, ErrorType, LinkState, ResponseView, is_http_1, head_bytes, reply_head, IsDateAt, flushes_head, Request, Outgoing, Head}
use Rattle.h1_error.specs.declared.error.ErrorType.TheVariants as kind
use Rattle.h1_error.specs.declared.head_fault.HeadFault.TheVariants.{UnsupportedVersion}
use Rattle.h1_body.specs.Writer.{begun}
use Rattle.h1_server.specs.Persistence.{keep_flag}
use Rattle.h1_body.specs.Framing.{out_to}
use Rattle.h1_server.specs.SessionView.{SessionView}
use Rattle.h1_server.specs.Writes.{Writes}
use Rattle.h1_transfer.specs.Writes.{IsSameMessage, IsFree, IsWaiting, IsRefused}
use Rattle.h1_transfer.specs.declared.outgoing.Step.{Step}
use Rattle.h1_transfer.specs.declared.outgoing.Step.TheVariants.{Free}

-- a header is handed in exactly where no write is in progress, and only its own call goes on
abbrev pub IsHeaderStep : Option ResponseView → Step → Type 0
IsHeaderStep (Some header) step = step ≡ Free
IsHeaderStep None step = step ≡ Head

-- a header's bytes are taken up with the date and the flag of this call, and its framing begins
pub record TakesHeader (old new : Outgoing) (request : Request) (flag : Bool)
    (header : ResponseView) (now : ℕ) (taking : List ℕ) : Type 0 where
  pub version : is_http_1 header.version ≡ true
  pub date : List ℕ
  pub is_date : IsDateAt (now / 1000) date
  pub bytes : taking ≡ head_bytes (reply_head header date flag)
  pub headed : new.headed ≡ true
  pub writer : new.writer ≡ begun (out_to request.head_only header)
  pub handed : new.handed ≡ old.handed
  pub write_since : new.write_since ≡ old.write_since

-- the flag that is noted: that of the header that is handed in
abbrev pub keep_after : Option ResponseView → Bool → Bool → Bool
keep_after None keep flag = keep
keep_after (Some header) keep flag = flag

-- what a header call takes up: the header that is handed in, and nothing where the call goes on
abbrev pub HeaderTaking : Outgoing → Outgoing → Request → Bool → ℕ → List ℕ → Option ResponseView
    → Type 0
HeaderTaking old new request flag now taking None = (taking ≡ []) × IsSameMessage old new
HeaderTaking old new request flag now taking (Some header) =
    TakesHeader old new request flag header now taking

-- the head is flushed where its framing asks for it
abbrev pub IsHeadFlushed : LinkState → Outgoing → Type 0
IsHeadFlushed now reply = IsTrue (flushes_head reply.writer.framing) → now.bytes_out ≤ now.flushed

-- bytes are owed, or the flush that the framing asks for
abbrev pub OwesHead : Outgoing → Type 0
OwesHead reply = flushes_head reply.writer.framing ≡ false → 0 < length reply.owed

-- the answer of a call that writes a header
abbrev pub HeaderAnswer : LinkState → LinkState → Outgoing → ℕ → Poll (Result (Unit {0}) Error)
    → Type 0
HeaderAnswer before now new left (Ready (Ok done)) = IsFree new × IsHeadFlushed now new
HeaderAnswer before now new left Pending = IsWaiting before now new Head left × OwesHead new
HeaderAnswer before now new left (Ready (Err error)) =
    IsRefused before now new Head error error.kind × (error.retry ≡ false)

-- one call that writes a final header, and notes its flag
pub record WritesHeader {L C : Type 0} (state : L → LinkState) (old new : SessionView L C)
    (request : Request) (header : Option ResponseView) (now : ℕ)
    (outcome : Poll (Result (Unit {0}) Error)) : Type 0 where
  pub taking : List ℕ
  pub left : ℕ
  pub writes : Writes state
      (record old
      { keep = keep_after header old.keep (keep_flag request.wish old.settings old.body) })
      new taking left
  pub takes : HeaderTaking old.reply new.reply request
      (keep_flag request.wish old.settings old.body) now taking header
  pub answer : HeaderAnswer (state old.link) (state new.link) new.reply left outcome

-- Why a header stays handed in: its version is none of HTTP/1, or there is no memory. Neither is
-- answered again.
abbrev pub HeaderRefusal : ResponseView → ErrorType → Type 0
HeaderRefusal header (kind.InvalidHTTPHeader UnsupportedVersion) = is_http_1 header.version ≡ false
HeaderRefusal header kind.NoMemory = is_http_1 header.version ≡ true
HeaderRefusal header _ = ⊥

-- a header that can't be written stays handed in, and all is as before
pub record KeepsHeader {L C : Type 0} (old new : SessionView L C) (header : Option ResponseView)
    (kept : ResponseView) (outcome : Poll (Result (Unit {0}) Error)) : Type 0 where
  pub same : new ≡ old
  pub back : header ≡ Some kept
  pub error : Error
  pub answer : outcome ≡ Ready (Err error)
  pub cause : HeaderRefusal kept error.kind
  pub retry : error.retry ≡ false

-- a header that is handed in after a final one is passed over
pub record PassesHeader {L C : Type 0} (old new : SessionView L C) (kept : Option ResponseView)
    (outcome : Poll (Result (Unit {0}) Error)) : Type 0 where
  pub same : new ≡ old
  pub out : kept ≡ None
  pub answer : outcome ≡ Ready (Ok tt)

-- whether a final header went before the one that is handed in
abbrev pub is_passed_over : Option ResponseView → Bool → Bool
is_passed_over None headed = false
is_passed_over (Some header) headed = headed

-- what of a header that was handed in is left to hand in, by whether a final one is taken up then
abbrev pub kept_by : Option ResponseView → Bool → Option ResponseView
kept_by header headed = if headed then None else header

-- one call with a header that isn't passed over: it is written, or stays handed in
abbrev pub HeaderWrite : {L C : Type 0} → (L → LinkState) → SessionView L C → SessionView L C
    → Request → Option ResponseView → Option ResponseView → ℕ → Poll (Result (Unit {0}) Error)
    → Type 0
HeaderWrite state old new request header None now outcome =
    WritesHeader state old new request header now outcome
HeaderWrite state old new request header (Some kept) now outcome =
    KeepsHeader old new header kept outcome

-- one call with a header
abbrev pub HeaderCall : {L C : Type 0} → (L → LinkState) → SessionView L C → SessionView L C
    → Request → Option ResponseView → Option ResponseView → ℕ → Poll (Result (Unit {0}) Error)
    → Bool → Type 0
HeaderCall state old new request header kept now outcome true = PassesHeader old new kept outcome
HeaderCall state old new request header kept now outcome false =
    HeaderWrite state old new request header kept now outcome
