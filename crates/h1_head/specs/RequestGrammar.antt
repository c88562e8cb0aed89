-- Which bytes are the head of a request (RFC 9112, sections 2.2, 3 and 5).
use Rattle.std.specs.Prelude.{◌≡◌, ℕ, ◌≤◌, ◌⊎◌, Bool, true, false, Some, List, [], length, map}
use Rattle.httparse.specs.Grammar.{RequestHead, ReadsRequest}
use Rattle.httparse.specs.Spans.{name_and_value}
use Rattle.h1_escape.specs.Escape.{esc}
use Rattle.h1_head.specs.declared.limits.TheConstants.{MAX_HEADERS}
use Rattle.h1_head.specs.Views.{RequestView}
use Rattle.h1_head.specs.Request.{request_read}

-- the bytes are this head of the grammar, and no more, and its fields are few enough
pub record IsHeadOf (bytes : List ℕ) (spelled : RequestHead) : Type 0 where
  pub reads : ReadsRequest bytes spelled []
  pub few : length spelled.fields ≤ MAX_HEADERS

-- what a head of the grammar says: its method, target and version, and its fields in order
abbrev pub request_of : RequestHead → RequestView
request_of spelled =
    request_read spelled.method spelled.target spelled.minor (map name_and_value spelled.fields)

-- the bytes are a head, and it says this
abbrev pub IsHead : List ℕ → RequestView → Type 0
IsHead bytes request =
    (spelled : RequestHead) × IsHeadOf bytes spelled × (request_of spelled ≡ request)

-- the bytes are no head
abbrev pub HasNoHead : List ℕ → Type 0
HasNoHead bytes = (spelled : RequestHead) → ¬ (IsHeadOf bytes spelled)

-- whether the bytes are a head, and then it says this
abbrev pub IsParsedAs : List ℕ → RequestView → Bool → Type 0
IsParsedAs bytes request true = IsHead bytes request
IsParsedAs bytes request false = HasNoHead bytes

-- what is read in the place of these bytes: they themselves if they are a head, else their escape
abbrev pub IsReadAs : List ℕ → List ℕ → Type 0
IsReadAs bytes raw =
    ((spelled : RequestHead) × IsHeadOf bytes spelled × (raw ≡ bytes))
    ⊎ (HasNoHead bytes × (esc bytes ≡ Some raw))

-- neither the bytes nor their escape are a head
abbrev pub IsNoHead : List ℕ → Type 0
IsNoHead bytes = HasNoHead bytes × ((raw : List ℕ) → esc bytes ≡ Some raw → HasNoHead raw)
