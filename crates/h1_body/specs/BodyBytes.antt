-- The bytes that are kept of a body.
use Rattle.std.specs.Prelude.{ℕ, List}
use Rattle.h1_body.specs.declared.body_bytes.Held.{Held}
use Rattle.h1_body.specs.declared.body_bytes.Held.TheVariants.{Own, Shared}

-- the bytes of the block, whoever else holds it
abbrev pub held_bytes : Held → List ℕ
held_bytes (Own bytes) = bytes.items
held_bytes (Shared alloc bytes) = bytes
