-- Laws of bodies (RFC 9112, sections 6 and 7.1), beside the definitions that a reader runs by.
use Rattle.std.specs.Prelude.{◌≡◌, ℕ, List, ◌++◌}
use Rattle.h1_body.specs.Body.{Body, whole, unfinished, broken, payload_of}

-- what bytes make of a body, and what they make of it with more bytes after: an end stays as it
-- is,
-- and payload only grows
abbrev pub GrowsTo : Body → Body → Type 0
GrowsTo (whole payload n) grown = grown ≡ whole payload n
GrowsTo (unfinished payload) grown = (later : List ℕ) × (payload_of grown ≡ payload ++ later)
GrowsTo (broken payload) grown = grown ≡ broken payload
