-- Taking payload out of received bytes (RFC 9112, section 6).
use Rattle.std.specs.Prelude.{◌≡◌, ◌<◌, List, ℕ, [], ◌∷◌, drop, length, Option, None, Some, slice_range}
use Rattle.h1_error.specs.Memory.{no_memory}
use Rattle.h1_error.specs.declared.error.Error.{Error}
use Rattle.h1_body.specs.Feeds.{Feeds}
use Rattle.h1_body.specs.Reader.{reads}
use Rattle.h1_body.specs.declared.fed.Fed.{Fed}
use Rattle.h1_body.specs.declared.fed.Taken.{Taken}
use Rattle.h1_body.specs.declared.reader.BodyReader.{BodyReader}

-- bytes, or None where there are none
abbrev pub some_bytes : List ℕ → Option (List ℕ)
some_bytes [] = None
some_bytes (b ∷ bytes) = Some (b ∷ bytes)

-- the bytes of a payload, which is None where there are none
abbrev pub payload_bytes : Option (List ℕ) → List ℕ
payload_bytes None = []
payload_bytes (Some bytes) = bytes

-- the bytes through an end leave the front, and those from a start on are handed out
abbrev pub Cuts : List ℕ → List ℕ → ℕ → ℕ → Option (List ℕ) → Type 0
Cuts old new start end piece =
    (piece ≡ some_bytes (slice_range old start end)) × (new ≡ drop end old)

-- there is no memory for the bytes from a start through an end, of which there are some
abbrev pub LacksRoom : ℕ → ℕ → Error → Type 0
LacksRoom start end error = (error ≡ no_memory) × (start < end)

-- the first run of payload that a reader makes of the bytes, which is empty where they give none
pub record IsNextRun (reader : BodyReader) (bytes run : List ℕ) : Type 0 where
  pub behind : BodyReader
  pub fed : Fed
  pub feeds : Feeds (reads reader) (reads behind) bytes fed
  pub is : run ≡ slice_range bytes fed.payload.start fed.payload.end

-- a run of payload comes next
abbrev pub HasNextRun : BodyReader → List ℕ → Type 0
HasNextRun reader bytes = (run : List ℕ) × IsNextRun reader bytes run × (0 < length run)

-- what the reader makes of the bytes is taken, and the bytes that it used leave the front
pub record Takes (before behind : BodyReader) (old new : List ℕ) (taken : Taken) : Type 0 where
  pub fed : Fed
  pub feeds : Feeds (reads before) (reads behind) old fed
  pub payload : taken.payload ≡ some_bytes (slice_range old fed.payload.start fed.payload.end)
  pub state : taken.state ≡ fed.state
  pub bytes : new ≡ drop fed.used old
