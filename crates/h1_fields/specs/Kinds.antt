-- Where the lines of four names stand.
use Rattle.std.specs.Prelude.{ℕ, ◌≡◌, ◌<◌, nat_lt, Bool, true, false, List, [], ◌∷◌, if◌then◌else◌, codes, length, get_or, ⊤}
use Rattle.h1_fields.specs.declared.held.TheConstants.{MAX_SHARED_LINES}
use Rattle.h1_fields.specs.declared.kinds.Kind.{Kind}
use Rattle.h1_fields.specs.declared.kinds.Kind.TheVariants.{Connection, ContentLength, Host, TransferEncoding}
use Rattle.h1_fields.specs.declared.kinds.Kinds.{Kinds}
use Rattle.h1_fields.specs.declared.kinds.Place.{Place}
use Rattle.h1_fields.specs.declared.kinds.Place.TheVariants.{Nowhere, At, Anywhere}
use Rattle.h1_fields.specs.declared.span.Span.{Span}
use Rattle.h1_fields.specs.Lines.{Line, values_of}
use Rattle.h1_fields.specs.Spans.{AllFit, lines_of}

abbrev pub name_of : Kind → List ℕ
name_of Connection = codes "Connection"
name_of ContentLength = codes "Content-Length"
name_of Host = codes "Host"
name_of TransferEncoding = codes "Transfer-Encoding"

abbrev pub place_of : Kind → Kinds → Place
place_of Connection kinds = kinds.connection
place_of ContentLength kinds = kinds.content_length
place_of Host kinds = kinds.host
place_of TransferEncoding kinds = kinds.transfer_encoding

-- what is known with a line more, which has the name or has it not and stands there
abbrev pub place_with : Bool → Place → ℕ → Place
place_with false place n = place
place_with true Nowhere n = if nat_lt n MAX_SHARED_LINES then At n else Anywhere
place_with true (At m) n = Anywhere
place_with true Anywhere n = Anywhere

-- what the place of a name says of the lines
abbrev pub IsPlaced : List ℕ → List Line → Place → Type 0
IsPlaced name lines Nowhere = values_of name lines ≡ []
IsPlaced name lines (At n) =
    (n < length lines) × (values_of name lines ≡ (get_or lines n ([], [])).1 ∷ [])
IsPlaced name lines Anywhere = ⊤

-- the places of all kinds say what holds of the lines
abbrev pub ArePlaced : List Line → Kinds → Type 0
ArePlaced lines kinds = (kind : Kind) → IsPlaced (name_of kind) lines (place_of kind kinds)

-- the lines lie in the text, and it is known where those of each kind stand
abbrev pub AreKnown : List ℕ → List Span → Kinds → Type 0
AreKnown text spans kinds = AllFit text spans × ArePlaced (lines_of text spans) kinds
