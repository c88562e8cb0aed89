-- The requests in a stream of bytes, one after the other (RFC 9112, sections 2.2, 6 and 9.3).
use Rattle.std.specs.Prelude.{◌≡◌, ℕ, ◌<◌, List, [], ◌∷◌, length, drop, Bool}
use Rattle.h1_transcript.specs.Words.{HeadFault, RequestView, HeadAt, RefusedAt, Body, whole, unfinished, broken, body, framing}
use Rattle.h1_head.specs.RequestHead.{NotYetAt}

-- a request in a stream: its head, whether Content-Length stood beside Transfer-Encoding, its body
pub record Message : Type 0 where
  pub head : RequestView
  pub both : Bool
  pub body : Body

-- what stands after the last request
pub data Tail : Type 0 where
  -- nothing
  empty : Tail
  -- a head that is not whole
  begun : Tail
  -- the rest of a body that is not whole
  stuck : Tail
  refused : HeadFault → Tail

-- only a whole body has something after it
abbrev pub BehindBody : Body → (ℕ → Type 0) → Type 0 → Type 0
BehindBody (whole payload n) behind last = behind n
BehindBody (unfinished payload) behind last = last
BehindBody (broken payload) behind last = last

-- the bytes begin with these requests
abbrev pub Begins : List ℕ → List Message → Type 0
Begins bytes [] = Unit {0}
Begins bytes (m ∷ more) =
    (n : ℕ) × HeadAt bytes n m.head m.both × (body (framing m.head) (drop n bytes) ≡ m.body)
    × BehindBody m.body (λ k. Begins (drop k (drop n bytes)) more) (more ≡ [])

-- what bytes are that no request begins
abbrev pub EndsAs : List ℕ → Tail → Type 0
EndsAs bytes empty = bytes ≡ []
EndsAs bytes begun = NotYetAt bytes × (0 < length bytes)
EndsAs bytes stuck = ⊥
EndsAs bytes (refused fault) = RefusedAt bytes fault

-- the bytes are exactly these requests and this tail
abbrev pub Parses : List ℕ → List Message → Tail → Type 0
Parses bytes [] tail = EndsAs bytes tail
Parses bytes (m ∷ more) tail =
    (n : ℕ) × HeadAt bytes n m.head m.both × (body (framing m.head) (drop n bytes) ≡ m.body)
    × BehindBody m.body (λ k. Parses (drop k (drop n bytes)) more tail) ((more ≡ [])
    × (tail ≡ stuck))
