-- Which bytes are the head of a response (RFC 9112, sections 2.2, 4 and 5).
use Rattle.std.specs.Prelude.{◌≡◌, ℕ, ◌≤◌, Bool, false, bytes_eq, Option, None, Some, List, [], length, map, if◌then◌else◌}
use Rattle.http.specs.StatusCode.{reason_phrase as phrase_of_status}
use Rattle.httparse.specs.Grammar.{ResponseHead, ReadsResponse, reason_phrase, status_code}
use Rattle.httparse.specs.Spans.{name_and_value}
use Rattle.h1_fields.specs.Lines.{Line}
use Rattle.h1_head.specs.declared.limits.TheConstants.{MAX_HEADERS}
use Rattle.h1_head.specs.Versions.{minor_version}
use Rattle.h1_head.specs.Views.{ResponseView}

-- the bytes are this head of the grammar, and no more, and its fields are few enough
pub record IsHeadOf (bytes : List ℕ) (spelled : ResponseHead) : Type 0 where
  pub reads : ReadsResponse bytes spelled []
  pub few : length spelled.fields ≤ MAX_HEADERS

abbrev pub is_phrase : Option (List ℕ) → List ℕ → Bool
is_phrase None phrase = false
is_phrase (Some named) phrase = bytes_eq named phrase

-- the phrase, where it isn't the one that the status code has (RFC 9110, section 15)
abbrev pub own_phrase : ℕ → List ℕ → Option (List ℕ)
own_phrase status phrase =
    if is_phrase (phrase_of_status status) phrase then None else Some phrase

-- a response that was read
abbrev pub response_read : ℕ → ℕ → List ℕ → List Line → ResponseView
response_read status minor phrase lines =
    record {
      status = status;
      version = minor_version minor;
      reason = own_phrase status phrase;
      fields = lines;
    }

-- what a head of the grammar says: its status, version and phrase, and its fields in order
abbrev pub response_of : ResponseHead → ResponseView
response_of spelled =
    response_read (status_code spelled) spelled.minor (reason_phrase spelled.reason)
    (map name_and_value spelled.fields)

-- the bytes are a head, and it says this
abbrev pub IsHead : List ℕ → ResponseView → Type 0
IsHead bytes response =
    (spelled : ResponseHead) × IsHeadOf bytes spelled × (response_of spelled ≡ response)

-- the bytes are no head
abbrev pub HasNoHead : List ℕ → Type 0
HasNoHead bytes = (spelled : ResponseHead) → ¬ (IsHeadOf bytes spelled)
