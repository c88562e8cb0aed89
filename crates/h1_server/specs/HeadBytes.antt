-- The bytes of a final head as it is written (RFC 9112, section 4).
use Rattle.std.specs.Prelude.{◌≡◌, ℕ, ◌/◌, List, Bool, true, false, Result, Ok, Err}
use Rattle.h1_server.specs.Words.{Error, ResponseView, is_http_1, head_bytes, reply_head, IsDateAt}
use Rattle.h1_server.specs.HeaderWrites.{HeaderRefusal}

-- the head with the date of this moment and this flag, or why it isn't written
abbrev pub IsHeadOf : ResponseView → Bool → ℕ → List ℕ → Result (Unit {0}) Error → Type 0
IsHeadOf header flag now bytes (Ok done) =
    (is_http_1 header.version ≡ true)
    × ((date : List ℕ) × IsDateAt (now / 1000) date
    × (bytes ≡ head_bytes (reply_head header date flag)))
IsHeadOf header flag now bytes (Err error) = HeaderRefusal header error.kind × (error.retry ≡ false)
