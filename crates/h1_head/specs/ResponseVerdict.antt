-- What becomes of bytes that end where a head does (RFC 9112, sections 4 and 5).
use Rattle.std.specs.Prelude.{◌≡◌, ℕ, ◌<◌, List, Some, None, Option, length, map, take}
use Rattle.httparse.specs.Grammar.{ResponseHead as Spelled}
use Rattle.httparse.specs.declared.spans.HeaderSpan.{HeaderSpan}
use Rattle.httparse.specs.declared.spans.ResponseSpans.{ResponseSpans}
use Rattle.httparse.specs.Spans.{IsResponseOf, IsResponseWithin, header_bytes, span_bytes}
use Rattle.h1_cut.specs.Limit.{CutsAt}
use Rattle.h1_error.specs.declared.head_fault.HeadFault.{HeadFault}
use Rattle.h1_error.specs.declared.head_fault.HeadFault.TheVariants.{NotAHead}
use Rattle.h1_head.specs.declared.limits.TheConstants.{MAX_HEADER_SIZE}
use Rattle.h1_head.specs.Faults.{status_fault}
use Rattle.h1_head.specs.Views.{ResponseView}
use Rattle.h1_head.specs.declared.response_grammar.Found.{Found}
use Rattle.h1_head.specs.declared.response_grammar.Found.TheVariants.{Head, NoHead, NoRoom}
use Rattle.h1_head.specs.declared.response_grammar.Parsed.{Parsed}
use Rattle.h1_head.specs.declared.response_grammar.Parsed.TheVariants as parsed
use Rattle.h1_head.specs.declared.response_head.ResponseFound.{ResponseFound}
use Rattle.h1_head.specs.declared.response_head.ResponseFound.TheVariants as found
use Rattle.h1_head.specs.declared.response_head.ResponseHead.{ResponseHead}
use Rattle.h1_head.specs.ResponseGrammar.{HasNoHead, IsHead, IsHeadOf, response_read}
use Rattle.h1_head.specs.ResponseHead.{IsAccepted, IsRefused}
use Rattle.h1_head.specs.Settled.{settled}

-- the response whose parts lie at these places of the bytes
abbrev pub response_at : List ℕ → List HeaderSpan → ResponseSpans → ResponseView
response_at bytes spans head =
    response_read head.code head.version (span_bytes bytes head.reason)
    (map (header_bytes bytes) (take head.headers spans))

-- the bytes are a head, and its parts lie at these places
pub record IsHeadAt (bytes : List ℕ) (spans : List HeaderSpan) (head : ResponseSpans) : Type 0 where
  pub within : IsResponseWithin bytes spans head
  pub parsed : IsResponseOf bytes spans head
  pub says : IsHead bytes (response_at bytes spans head)

-- the bytes begin with a head within the limit, and its parts lie at these places
pub record IsFrontAt (bytes : List ℕ) (spans : List HeaderSpan) (head : ResponseSpans) : Type 0 where
  pub cuts : CutsAt MAX_HEADER_SIZE bytes head.len
  pub front : IsHeadAt (take head.len bytes) spans head

-- the bytes are no head that has so few lines
abbrev pub HasMoreLines : ℕ → List ℕ → Type 0
HasMoreLines room bytes =
    (spelled : Spelled) → IsHeadOf bytes spelled → room < length spelled.fields

-- what is found where there is room for as many lines as there are spans
abbrev pub IsFoundBy : List ℕ → List HeaderSpan → Found → Type 0
IsFoundBy bytes spans (Head head) = IsHeadAt bytes spans head
IsFoundBy bytes spans NoHead = HasNoHead bytes
IsFoundBy bytes spans NoRoom = HasMoreLines (length spans) bytes

-- what bytes are by the grammar, and what they say
abbrev pub IsParsedAs : List ℕ → ResponseView → Parsed → Type 0
IsParsedAs bytes response parsed.Head =
    IsHead bytes response × (status_fault response.status ≡ None)
IsParsedAs bytes response (parsed.Faulty fault) =
    (said : ResponseView) × IsHead bytes said × (status_fault said.status ≡ Some fault)
IsParsedAs bytes response parsed.NoHead = HasNoHead bytes

-- the bytes are accepted as this head, or refused for a fault
abbrev pub IsJudged : List ℕ → ResponseHead → Option HeadFault → Type 0
IsJudged bytes head None = IsAccepted bytes head.header × (head.raw ≡ bytes)
IsJudged bytes head (Some fault) = IsRefused bytes fault

-- the bytes begin with a head that takes so many of them, and it is accepted or has a fault
abbrev pub IsJudgedAt : List ℕ → ResponseHead → Option HeadFault × ℕ → Type 0
IsJudgedAt bytes head judged =
    CutsAt MAX_HEADER_SIZE bytes judged.1 × IsJudged (take judged.1 bytes) head judged.0

-- what is known of a head that takes so many bytes, and is accepted or has a fault
abbrev pub told : Option HeadFault → ℕ → ResponseFound
told None n = found.Whole n
told (Some fault) n = found.Refused fault

-- what becomes of a response that was read from bytes that are this by the grammar
abbrev pub IsSettledAs : ResponseView → ResponseView → Parsed → Option HeadFault → Type 0
IsSettledAs said response parsed.Head fault = (fault ≡ None) × (response ≡ settled said)
IsSettledAs said response (parsed.Faulty why) fault = fault ≡ Some why
IsSettledAs said response parsed.NoHead fault = fault ≡ Some NotAHead
