-- A body of which some bytes were read (RFC 9112, section 6).
use Rattle.std.specs.Prelude.{◌≡◌, ℕ, List, ◌++◌, length}
use Rattle.h1_body.specs.Body.{ahead}
use Rattle.h1_body.specs.Reader.{body, reads}
use Rattle.h1_body.specs.declared.framing.Framing.{Framing}
use Rattle.h1_body.specs.declared.reader.BodyReader.{BodyReader}

-- the reader took these bytes of a body of this framing, and gave this payload
pub record HasRead (framing : Framing) (bytes payload : List ℕ) (reader : BodyReader) : Type 0 where
  pub read : (more : List ℕ)
      → body framing (bytes ++ more) ≡ ahead payload (length bytes) (reads reader more)
