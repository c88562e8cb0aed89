-- Where pipelining is off, a connection goes on only with nothing given after the request
-- (RFC 9112, section 9.3.2).
use Rattle.std.specs.Prelude.{◌≡◌, ℕ, List, [], ◌∷◌, ◌++◌, false}
use Rattle.h1_transcript.specs.Words.{LinkState, Entry}
use Rattle.h1_transcript.specs.Behind.{ReadBehind}
use Rattle.h1_transcript.specs.Told.{IfTold}

-- the bytes end within the requests of these exchanges, or with them
abbrev pub WithinRead : List ℕ → List Entry → Type 0
WithinRead since entries = (more : List ℕ) × ReadBehind (since ++ more) entries []

-- of each of these exchanges that left pipelining off, this holds of all up to it; `front` are
-- those before them
abbrev pub Alone : (List Entry → Type 0) → List Entry → List Entry → Type 0
Alone P front [] = Unit {0}
Alone P front (e ∷ more) =
    (e.left.pipelining ≡ false → P (front ++ e ∷ [])) × Alone P (front ++ e ∷ []) more

-- More exchanges are over than before: of each that left pipelining off, no byte after its request
-- was given in this state of the link.
abbrev pub JoinAlone : LinkState → LinkState → List Entry → List Entry → Type 0
JoinAlone before old from to = (more : List Entry) × (to ≡ from ++ more)
    × Alone (λ entries. IfTold before.given old.given (λ since. WithinRead since entries)) from more
