-- What the offsets that the grammar's parser gives say (RFC 9112, section 3).
use Rattle.std.specs.Prelude.{ℕ, ◌<◌, List, length, map, take}
use Rattle.httparse.specs.Grammar.{RequestHead}
use Rattle.httparse.specs.declared.spans.HeaderSpan.{HeaderSpan}
use Rattle.httparse.specs.declared.spans.RequestSpans.{RequestSpans}
use Rattle.httparse.specs.Spans.{IsRequestOf, IsRequestWithin, header_bytes, span_bytes}
use Rattle.h1_cut.specs.Limit.{CutsAt}
use Rattle.h1_head.specs.declared.limits.TheConstants.{MAX_HEADER_SIZE}
use Rattle.h1_head.specs.declared.request_grammar.Found.{Found}
use Rattle.h1_head.specs.declared.request_grammar.Found.TheVariants.{Head, NoHead, NoRoom}
use Rattle.h1_head.specs.Request.{request_read}
use Rattle.h1_head.specs.RequestGrammar.{HasNoHead, IsHead, IsHeadOf}
use Rattle.h1_head.specs.Views.{RequestView}

-- the request whose parts lie at these places of the bytes
abbrev pub request_at : List ℕ → List HeaderSpan → RequestSpans → RequestView
request_at bytes spans head =
    request_read (span_bytes bytes head.method) (span_bytes bytes head.path) head.version
    (map (header_bytes bytes) (take head.headers spans))

-- the bytes are a head, and its parts lie at these places
pub record IsHeadAt (bytes : List ℕ) (spans : List HeaderSpan) (head : RequestSpans) : Type 0 where
  pub within : IsRequestWithin bytes spans head
  pub parsed : IsRequestOf bytes spans head
  pub says : IsHead bytes (request_at bytes spans head)

-- the bytes begin with a head within the limit, and its parts lie at these places
pub record IsFrontAt (bytes : List ℕ) (spans : List HeaderSpan) (head : RequestSpans) : Type 0 where
  pub cuts : CutsAt MAX_HEADER_SIZE bytes head.len
  pub front : IsHeadAt (take head.len bytes) spans head

-- the bytes are no head that has so few lines
abbrev pub HasMoreLines : ℕ → List ℕ → Type 0
HasMoreLines room bytes =
    (spelled : RequestHead) → IsHeadOf bytes spelled → room < length spelled.fields

-- what is found where there is room for as many lines as there are spans
abbrev pub IsFoundIn : List ℕ → List HeaderSpan → Found → Type 0
IsFoundIn bytes spans (Head head) = IsHeadAt bytes spans head
IsFoundIn bytes spans NoHead = HasNoHead bytes
IsFoundIn bytes spans NoRoom = HasMoreLines (length spans) bytes
