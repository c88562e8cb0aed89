-- What a link that stands idle took and gave: whole exchanges, one behind another (RFC 9112, section
-- 9.3).
use Rattle.std.specs.Prelude.{◌≡◌, ℕ, List, [], ◌∷◌, ◌++◌, Option, Some, None}
use Rattle.h1_client.specs.Words.{RequestView, LinkState}
use Rattle.h1_client.specs.Exchanges.{IsRequest, IsAnswer}

-- a request, its bytes, and those of the responses to it
pub record Exchange : Type 0 where
  pub head : RequestView
  pub request : List ℕ
  pub response : List ℕ

pub record IsExchange (x : Exchange) : Type 0 where
  pub asks : IsRequest x.head x.request
  pub answers : IsAnswer x.head x.response

-- these exchanges, one behind another, and nothing else
abbrev pub Serves : List Exchange → List ℕ → List ℕ → Type 0
Serves [] taken given = (taken ≡ []) × (given ≡ [])
Serves (x ∷ xs) taken given =
    IsExchange x × (further : List ℕ) × (more : List ℕ)
    × (taken ≡ x.request ++ further) × (given ≡ x.response ++ more) × Serves xs further more

abbrev pub Served : List ℕ → List ℕ → Type 0
Served taken given = (xs : List Exchange) × Serves xs taken given

-- a fact of the bytes that a link took and gave, where it tells both
abbrev pub Told : Option (List ℕ) → Option (List ℕ) → (List ℕ → List ℕ → Type 0) → Type 0
Told None given fact = Unit {0}
Told (Some taken) None fact = Unit {0}
Told (Some taken) (Some given) fact = fact taken given

abbrev pub IsServed : LinkState → Type 0
IsServed s = Told s.written s.given Served
