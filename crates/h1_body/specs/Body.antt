-- What bytes make of a body (RFC 9112, section 6).
use Rattle.std.specs.Prelude.{ℕ, ◌+◌, List, [], ◌++◌}
use Rattle.h1_body.specs.declared.fed.FeedState.{FeedState}
use Rattle.h1_body.specs.declared.fed.FeedState.TheVariants.{More, Done, Broken}

-- the payload and the number of bytes of a body that ended, the payload of one that did not, and
-- the
-- payload before the first byte with which the bytes begin no body
pub data Body : Type 0 where
  whole : List ℕ → ℕ → Body
  unfinished : List ℕ → Body
  broken : List ℕ → Body

-- the body whose first bytes, of which there are `used`, gave the payload `front`
abbrev pub ahead : List ℕ → ℕ → Body → Body
ahead front used (whole payload n) = whole (front ++ payload) (used + n)
ahead front used (unfinished payload) = unfinished (front ++ payload)
ahead front used (broken payload) = broken (front ++ payload)

abbrev pub payload_of : Body → List ℕ
payload_of (whole payload n) = payload
payload_of (unfinished payload) = payload
payload_of (broken payload) = payload

-- what no bytes more make of a body in this state
abbrev pub stop_of : FeedState → Body
stop_of More = unfinished []
stop_of Done = whole [] 0
stop_of Broken = broken []

-- no bytes after it change it
abbrev pub IsFinal : Body → Type 0
IsFinal (whole payload n) = Unit {0}
IsFinal (unfinished payload) = ⊥
IsFinal (broken payload) = Unit {0}
