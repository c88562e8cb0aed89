-- The head of a response at the front of a stream (RFC 9112, sections 2, 4 and 5).
use Rattle.std.specs.Prelude.{◌≡◌, ℕ, ◌<◌, ◌⊎◌, Some, None, List, length, take}
use Rattle.h1_cut.specs.Limit.{CutsAt, HasNoCut}
use Rattle.h1_error.specs.declared.head_fault.HeadFault.{HeadFault}
use Rattle.h1_error.specs.declared.head_fault.HeadFault.TheVariants.{NotAHead, TooLong}
use Rattle.h1_head.specs.declared.limits.TheConstants.{MAX_HEADER_SIZE}
use Rattle.h1_head.specs.Faults.{status_fault}
use Rattle.h1_head.specs.RequestHead.{NotYetAt}
use Rattle.h1_head.specs.Views.{ResponseView}
use Rattle.h1_head.specs.declared.response_head.ResponseFound.{ResponseFound}
use Rattle.h1_head.specs.declared.response_head.ResponseFound.TheVariants as found
use Rattle.h1_head.specs.declared.response_head.ResponseHead.{ResponseHead}
use Rattle.h1_head.specs.declared.response_head.ResponseStep.{ResponseStep}
use Rattle.h1_head.specs.declared.response_head.ResponseStep.TheVariants.{Whole, NotYet, Refused}
use Rattle.h1_head.specs.Normal.{normal}
use Rattle.h1_head.specs.Settled.{settled}
use Rattle.h1_head.specs.ResponseGrammar.{HasNoHead, IsHead}

-- these bytes are a whole head, and it is accepted: this is the response
pub record IsAccepted (head : List ℕ) (response : ResponseView) : Type 0 where
  pub said : ResponseView
  pub says : IsHead (normal head) said
  pub sound : status_fault said.status ≡ None
  pub response_is : response ≡ settled said

-- these bytes are a whole head that says something, and this is its fault
pub record HasFault (head : List ℕ) (fault : HeadFault) : Type 0 where
  pub said : ResponseView
  pub says : IsHead (normal head) said
  pub faulty : status_fault said.status ≡ Some fault

-- these bytes are refused as a head
abbrev pub IsRefused : List ℕ → HeadFault → Type 0
IsRefused head fault = (HasNoHead (normal head) × (fault ≡ NotAHead)) ⊎ HasFault head fault

-- the first n of the bytes are a head, and it is accepted
pub record ResponseAt (bytes : List ℕ) (n : ℕ) (response : ResponseView) : Type 0 where
  pub cuts : CutsAt MAX_HEADER_SIZE bytes n
  pub accepted : IsAccepted (take n bytes) response

-- the bytes begin with a head that is refused, or with no head within the limit
pub record RefusedAt (bytes : List ℕ) (fault : HeadFault) : Type 0 where
  pub cause : ((n : ℕ) × CutsAt MAX_HEADER_SIZE bytes n × IsRefused (take n bytes) fault)
      ⊎ (HasNoCut MAX_HEADER_SIZE bytes × (MAX_HEADER_SIZE < length bytes) × (fault ≡ TooLong))

-- the first n of the bytes are this head, with its bytes as they were received
abbrev pub IsWholeAt : List ℕ → ℕ → ResponseHead → Type 0
IsWholeAt bytes n head = ResponseAt bytes n head.header × (head.raw ≡ take n bytes)

-- the answer for the bytes that are there
abbrev pub IsStepOf : List ℕ → ResponseStep → Type 0
IsStepOf bytes (Whole head n) = IsWholeAt bytes n head
IsStepOf bytes NotYet = NotYetAt bytes
IsStepOf bytes (Refused fault) = RefusedAt bytes fault

-- the same of a search that puts the head in its place
abbrev pub IsFoundIn : List ℕ → ResponseHead → ResponseFound → Type 0
IsFoundIn bytes head (found.Whole n) = IsWholeAt bytes n head
IsFoundIn bytes head found.NotYet = NotYetAt bytes
IsFoundIn bytes head (found.Refused fault) = RefusedAt bytes fault
