-- The head of a subrequest (RFC 9112, section 3), and what is asked of it.
use Rattle.std.specs.Prelude.{◌≡◌, ◌≢◌, ℕ, Bool, true, false, List, [], ◌++◌, Option, Some, None, Result, Ok, Err, option_map, codes, if◌then◌else◌}
use Rattle.std.specs.Str.Lossy.{utf8_lossy}
use Rattle.h1_error.specs.declared.error.ErrorType.TheVariants as kind
use Rattle.h1_fields.specs.Lines.{first_value, without}
use Rattle.h1_head.specs.RequestHead.{HeadAt, NotYetAt, RefusedAt}
use Rattle.h1_head.specs.Upgrade.{asks_upgrade}
use Rattle.h1_subrequest.specs.Words.{Error, ErrorType, ParseState, Pending, Poll, Ready, RequestView, ResponseView, framing}
use Rattle.h1_subrequest.specs.declared.parse_state.ParseState.TheVariants as parse
use Rattle.h1_subrequest.specs.Reading.{reader_of}
use Rattle.h1_subrequest.specs.SessionView.{Asked, SubSession}
use Rattle.h1_subrequest.specs.Upgrade.{completes}

-- the request without the fields that tell of a body
abbrev pub without_body : RequestView → RequestView
without_body head = record head {
  fields =
      without (codes "Content-Encoding")
      (without (codes "Content-Type")
      (without (codes "Transfer-Encoding") (without (codes "Content-Length") head.fields)));
}

abbrev pub asked_of : Bool → RequestView → RequestView
asked_of cleared head = if cleared then without_body head else head

-- This head was read. The framing of the request sets the reader.
abbrev pub begun : {X R : Type 0} → SubSession X R → RequestView → SubSession X R
begun s head = record s {
  request = Some (record { header = head; read = head });
  reader = reader_of (framing head);
}

-- why no head was read
abbrev pub IsHeadFault : List ℕ → ErrorType → Type 0
IsHeadFault raw (kind.InvalidHTTPHeader fault) = RefusedAt raw fault
IsHeadFault raw kind.ConnectionClosed = NotYetAt raw × (raw ≢ [])
IsHeadFault raw kind.NoMemory = Unit {0}
IsHeadFault raw other = ⊥

-- The bytes begin with a head of this length, or there is no byte, or no head is read. They are all
-- there, so that the call is never to be repeated.
abbrev pub ReadsHead : {X R : Type 0} → SubSession X R → SubSession X R
    → Poll (Result (Option ℕ) Error) → Type 0
ReadsHead s s' (Ready (Ok (Some n))) = (head : RequestView) × (both : Bool)
    × HeadAt s.raw n head both × (s' ≡ begun s (asked_of s.cleared head))
ReadsHead s s' (Ready (Ok None)) = (s.raw ≡ []) × (s' ≡ s)
ReadsHead s s' (Ready (Err error)) =
    IsHeadFault s.raw error.kind × (error.retry ≡ false) × (s' ≡ s)
ReadsHead s s' Pending = ⊥

abbrev pub without_bodies : Asked → Asked
without_bodies asked =
    record { header = without_body asked.header; read = without_body asked.read }

-- a reader that no call has asked has nothing to read
abbrev pub cleared_reader : Option Asked → Bool → ParseState → ParseState
cleared_reader None used reader = reader
cleared_reader (Some asked) used reader = if used then reader else parse.Complete 0

-- The fields that tell of a body go at once, or when the head is read.
abbrev pub cleared : {X R : Type 0} → SubSession X R → SubSession X R
cleared s = record s {
  cleared = true;
  request = option_map without_bodies s.request;
  reader = cleared_reader s.request s.used s.reader;
}

-- the value of the first line of a name, once the head was read
abbrev pub field_of : List ℕ → Option Asked → Option (List ℕ)
field_of name None = None
field_of name (Some asked) = first_value name asked.header.fields

-- nothing in the place of no value
abbrev pub value_of : Option (List ℕ) → List ℕ
value_of None = []
value_of (Some value) = value

abbrev pub method_of : Option Asked → List ℕ
method_of None = codes "-"
method_of (Some asked) = asked.header.method

abbrev pub target_of : Option Asked → List ℕ
target_of None = []
target_of (Some asked) = asked.header.target

-- METHOD SP TARGET ", Host: " HOST " (subrequest)"
abbrev pub summary_line : List ℕ → List ℕ → List ℕ → List ℕ
summary_line method target host =
    method
    ++ (codes " " ++ (target ++ (codes ", Host: " ++ (host ++ codes " (subrequest)"))))

-- a line that names the request, with what is no UTF-8 replaced
abbrev pub summary_of : Option Asked → List ℕ
summary_of request =
    summary_line (method_of request) (utf8_lossy (target_of request))
    (utf8_lossy (value_of (field_of (codes "Host") request)))

-- whether the request asks for another protocol
abbrev pub asks : Option Asked → Bool
asks None = false
asks (Some asked) = asks_upgrade asked.read

-- whether this header changes the protocol, where the request asks for another
abbrev pub upgrade_by : Option Asked → ResponseView → Option Bool
upgrade_by None header = None
upgrade_by (Some asked) header =
    if asks_upgrade asked.read then Some (completes asked.read header) else None

-- whether the header that was put last changed the protocol
abbrev pub is_changed : Option Asked → Option ResponseView → Bool
is_changed (Some asked) (Some header) = completes asked.read header
is_changed request None = false
is_changed None (Some header) = false
