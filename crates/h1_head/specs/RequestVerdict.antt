-- What becomes of the bytes of a whole head (RFC 9112, sections 2 to 6).
use Rattle.std.specs.Prelude.{◌≡◌, List, ℕ, Bool, take, true, false, Some, None}
use Rattle.h1_cut.specs.Limit.{CutsAt}
use Rattle.h1_fields.specs.ContentLength.{content_length}
use Rattle.h1_head.specs.declared.limits.TheConstants.{MAX_HEADER_SIZE}
use Rattle.h1_head.specs.declared.request_head.Verdict.{Verdict}
use Rattle.h1_head.specs.declared.request_head.Verdict.TheVariants.{Accepted, Refused}
use Rattle.h1_head.specs.RequestFault.{first_fault, is_both, settled}
use Rattle.h1_head.specs.RequestGrammar.{IsHead, IsNoHead, IsReadAs}
use Rattle.h1_head.specs.RequestHead.{IsAccepted, IsRefused}
use Rattle.h1_head.specs.Views.{RequestView}

-- the head is accepted as this request, which these bytes say and whose lines state this length, or
-- refused for this
abbrev pub IsVerdictOn : List ℕ → RequestView → List ℕ → Verdict → Type 0
IsVerdictOn head request raw (Accepted both length) =
    IsAccepted head request both × IsReadAs head raw × (length ≡ content_length request.fields)
IsVerdictOn head request raw (Refused fault) = IsRefused head fault

-- the bytes begin with a head that takes so many of them, and this becomes of it
abbrev pub IsVerdictAt : List ℕ → RequestView → List ℕ → Verdict × ℕ → Type 0
IsVerdictAt bytes request raw found =
    CutsAt MAX_HEADER_SIZE bytes found.1 × IsVerdictOn (take found.1 bytes) request raw found.0

-- whether these bytes are read in the place of a head that is none itself, and then they say this
abbrev pub IsEscapedAs : List ℕ → List ℕ → RequestView → Bool → Type 0
IsEscapedAs head raw request true = IsReadAs head raw × IsHead raw request
IsEscapedAs head raw request false = IsNoHead head

-- what becomes of a request that was read
abbrev pub IsSettled : RequestView → RequestView → Verdict → Type 0
IsSettled said request (Accepted both length) =
    (first_fault (settled said) ≡ None) × (request ≡ settled said) × (both ≡ is_both said)
    × (length ≡ content_length request.fields)
IsSettled said request (Refused fault) = first_fault (settled said) ≡ Some fault
