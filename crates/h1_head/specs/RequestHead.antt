-- The head of a request at the front of a stream (RFC 9112, sections 2 to 6).
use Rattle.std.specs.Prelude.{◌≡◌, ℕ, ◌<◌, ◌≤◌, ◌⊎◌, Bool, Some, None, List, length, take}
use Rattle.h1_cut.specs.Limit.{CutsAt, HasNoCut}
use Rattle.h1_error.specs.declared.head_fault.HeadFault.{HeadFault}
use Rattle.h1_error.specs.declared.head_fault.HeadFault.TheVariants.{NotAHead, TooLong}
use Rattle.h1_head.specs.declared.limits.TheConstants.{MAX_HEADER_SIZE}
use Rattle.h1_head.specs.declared.request_head.HeadEnd.{HeadEnd}
use Rattle.h1_head.specs.declared.request_head.HeadEnd.TheVariants as end
use Rattle.h1_head.specs.declared.request_head.HeadStep.{HeadStep}
use Rattle.h1_head.specs.declared.request_head.HeadStep.TheVariants.{Whole, NotYet, Refused}
use Rattle.h1_head.specs.RequestFault.{first_fault, is_both, settled}
use Rattle.h1_head.specs.RequestGrammar.{IsHead, IsNoHead, IsReadAs}
use Rattle.h1_head.specs.Views.{RequestView}

-- these bytes are a whole head, and it is accepted: this is the request, and `both` says whether
-- Content-Length lines beside Transfer-Encoding went
pub record IsAccepted (head : List ℕ) (request : RequestView) (both : Bool) : Type 0 where
  pub raw : List ℕ
  pub said : RequestView
  pub read_as : IsReadAs head raw
  pub says : IsHead raw said
  pub sound : first_fault (settled said) ≡ None
  pub request_is : request ≡ settled said
  pub both_is : both ≡ is_both said

-- these bytes are a whole head that says something, and this is its first fault
pub record HasFault (head : List ℕ) (fault : HeadFault) : Type 0 where
  pub raw : List ℕ
  pub said : RequestView
  pub read_as : IsReadAs head raw
  pub says : IsHead raw said
  pub faulty : first_fault (settled said) ≡ Some fault

-- these bytes are refused as a head
abbrev pub IsRefused : List ℕ → HeadFault → Type 0
IsRefused head fault = (IsNoHead head × (fault ≡ NotAHead)) ⊎ HasFault head fault

-- the first n of the bytes are a head, and it is accepted
pub record HeadAt (bytes : List ℕ) (n : ℕ) (request : RequestView) (both : Bool) : Type 0 where
  pub cuts : CutsAt MAX_HEADER_SIZE bytes n
  pub accepted : IsAccepted (take n bytes) request both

-- the bytes begin with a head that is refused, or with no head within the limit
pub record RefusedAt (bytes : List ℕ) (fault : HeadFault) : Type 0 where
  pub cause : ((n : ℕ) × CutsAt MAX_HEADER_SIZE bytes n × IsRefused (take n bytes) fault)
      ⊎ (HasNoCut MAX_HEADER_SIZE bytes × (MAX_HEADER_SIZE < length bytes) × (fault ≡ TooLong))

-- no head ends in the bytes, and one may still end within the limit
pub record NotYetAt (bytes : List ℕ) : Type 0 where
  pub uncut : HasNoCut MAX_HEADER_SIZE bytes
  pub short : length bytes ≤ MAX_HEADER_SIZE

-- where the head at the front of the bytes ends
abbrev pub IsEndIn : List ℕ → HeadEnd → Type 0
IsEndIn bytes (end.At n) = CutsAt MAX_HEADER_SIZE bytes n
IsEndIn bytes end.NotYet = NotYetAt bytes
IsEndIn bytes end.TooLong = HasNoCut MAX_HEADER_SIZE bytes × (MAX_HEADER_SIZE < length bytes)

-- the answer for the bytes that are there
abbrev pub IsStepOf : List ℕ → HeadStep → Type 0
IsStepOf bytes (Whole head n) =
    HeadAt bytes n head.header head.both × IsReadAs (take n bytes) head.raw
IsStepOf bytes NotYet = NotYetAt bytes
IsStepOf bytes (Refused fault) = RefusedAt bytes fault
