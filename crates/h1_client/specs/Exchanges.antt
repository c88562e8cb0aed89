-- The bytes of one exchange: a request with its body, and the responses to it (RFC 9112, sections 3 to
-- 6; RFC 9110, section 15.2).
use Rattle.std.specs.Prelude.{◌≡◌, ℕ, List, [], ◌∷◌, ◌++◌, ◌==◌, length, true, false, Some}
use Rattle.h1_client.specs.Words.{RequestView, ResponseView, request_bytes, framing, body, whole, IsAccepted, is_interim}
use Rattle.h1_client.specs.Responses.{framing_to}

-- a head as it is written, and behind it the whole body
pub record IsRequest (request : RequestView) (bytes : List ℕ) : Type 0 where
  pub front : List ℕ
  pub rest : List ℕ
  pub parts : bytes ≡ front ++ rest
  pub head : request_bytes request ≡ Some front
  pub payload : List ℕ
  pub whole_body : body (framing request) rest ≡ whole payload (length rest)

-- a head that says this, and behind it the whole body of a response to this request
pub record IsResponse (request : RequestView) (said : ResponseView) (bytes : List ℕ) : Type 0 where
  pub front : List ℕ
  pub rest : List ℕ
  pub parts : bytes ≡ front ++ rest
  pub head : IsAccepted front said
  pub payload : List ℕ
  pub whole_body : body (framing_to request said) rest ≡ whole payload (length rest)

-- the head of an interim response
abbrev pub IsInterim : List ℕ → Type 0
IsInterim bytes = (said : ResponseView) × IsAccepted bytes said × (is_interim said.status ≡ true)

-- heads of interim responses, one behind another, and nothing else
abbrev pub AreInterim : List (List ℕ) → List ℕ → Type 0
AreInterim [] bytes = bytes ≡ []
AreInterim (head ∷ heads) bytes =
    IsInterim head × (rest : List ℕ) × (bytes ≡ head ++ rest) × AreInterim heads rest

-- Interim responses, and behind them a final one, which is whole and doesn't change the protocol. The
-- body of one that is read until the link ends is never whole.
pub record IsAnswer (request : RequestView) (bytes : List ℕ) : Type 0 where
  pub heads : List (List ℕ)
  pub interim : List ℕ
  pub last : List ℕ
  pub parts : bytes ≡ interim ++ last
  pub before : AreInterim heads interim
  pub said : ResponseView
  pub response : IsResponse request said last
  pub final : is_interim said.status ≡ false
  pub stays : (said.status == 101) ≡ false
