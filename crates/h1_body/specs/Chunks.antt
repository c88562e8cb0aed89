-- What bytes make of a chunked body, byte by byte (RFC 9112, section 7.1).
use Rattle.std.specs.Prelude.{ℕ, ◌+◌, ◌-◌, ◌*◌, ◌/◌, ◌==◌, ◌&&◌, not, nat_lt, nat_le, List, [], ◌∷◌, Bool, if◌then◌else◌}
use Rattle.std.specs.Char.{digit_value}
use Rattle.httparse.specs.Grammar.{is_token_byte}
use Rattle.h1_body.specs.Body.{Body, ahead, stop_of}
use Rattle.h1_body.specs.declared.fed.FeedState.{FeedState}
use Rattle.h1_body.specs.declared.fed.FeedState.TheVariants as state
use Rattle.h1_body.specs.declared.chunking.Chunking.{Chunking}
use Rattle.h1_body.specs.declared.chunking.Chunking.TheVariants.{Start, Size, Extension, SizeLf, Data, DataCr, DataLf, Trailers, Name, Value, ValueLf, EndLf, Done, Broken}
use Rattle.h1_body.specs.declared.chunking.TheConstants.{SIZE_LINE_LIMIT, CHUNK_LIMIT, TRAILERS_LIMIT}

-- a byte of an extension or of a trailer's value: neither CR, LF nor NUL
abbrev pub is_text : ℕ → Bool
is_text b = not (b == 13) && (not (b == 10) && not (b == 0))

abbrev pub at_byte : ℕ → Chunking → ℕ → Chunking
at_byte expected next b = if b == expected then next else Broken

abbrev pub at_start : ℕ → Chunking
at_start b = if nat_lt (digit_value b) 16 then Size 15 (digit_value b) else Broken

-- a size has at most 16 digits and is at most the limit
abbrev pub with_digit : ℕ → ℕ → ℕ → Chunking
with_digit left size digit =
    if nat_lt 0 left && nat_le size (CHUNK_LIMIT / 16) then Size (left - 1)
    (size * 16 + digit) else Broken

abbrev pub in_size : ℕ → ℕ → ℕ → Chunking
in_size left size b =
    if nat_lt (digit_value b) 16
    then with_digit left size (digit_value b)
    else (if b == 59 then Extension (SIZE_LINE_LIMIT - 19 + left) size else at_byte 13
    (SizeLf size) b)

abbrev pub in_extension : ℕ → ℕ → ℕ → Chunking
in_extension left size b =
    if b == 13
    then SizeLf size
    else (if is_text b && nat_lt 0 left then Extension (left - 1) size else Broken)

-- a chunk of size 0 begins the end
abbrev pub behind_size : ℕ → Chunking
behind_size size = if size == 0 then Trailers TRAILERS_LIMIT else Data (size - 1)

abbrev pub at_size_lf : ℕ → ℕ → Chunking
at_size_lf size b = at_byte 10 (behind_size size) b

abbrev pub in_data : ℕ → Chunking
in_data more = if more == 0 then DataCr else Data (more - 1)

abbrev pub at_line : ℕ → ℕ → Chunking
at_line left b =
    if b == 13
    then EndLf
    else (if is_token_byte b && nat_le 4 left then Name (left - 4) else Broken)

abbrev pub in_name : ℕ → ℕ → Chunking
in_name left b =
    if b == 58
    then Value left
    else (if is_token_byte b && nat_lt 0 left then Name (left - 1) else Broken)

abbrev pub in_value : ℕ → ℕ → Chunking
in_value left b =
    if b == 13
    then ValueLf left
    else (if is_text b && nat_lt 0 left then Value (left - 1) else Broken)

-- where the reader stands after one byte more
abbrev pub step : Chunking → ℕ → Chunking
step Start b = at_start b
step (Size left size) b = in_size left size b
step (Extension left size) b = in_extension left size b
step (SizeLf size) b = at_size_lf size b
step (Data more) b = in_data more
step DataCr b = at_byte 13 DataLf b
step DataLf b = at_byte 10 Start b
step (Trailers left) b = at_line left b
step (Name left) b = in_name left b
step (Value left) b = in_value left b
step (ValueLf left) b = at_byte 10 (Trailers left) b
step EndLf b = at_byte 10 Done b
step Done b = Done
step Broken b = Broken

abbrev pub state_of : Chunking → FeedState
state_of Done = state.Done
state_of Broken = state.Broken
state_of _ = state.More

-- what a place does with the next byte: it passes it over, yields it as payload, or takes none
pub data Use : Type 0 where
  skips : Use
  yields : Use
  ends : Use

abbrev pub use_of : Chunking → Use
use_of (Data more) = yields
use_of Done = ends
use_of Broken = ends
use_of _ = skips

-- the body of a byte and what the bytes after it make
abbrev pub with_byte : Use → Body → ℕ → Body → Body
with_byte skips stop b rest = ahead [] 1 rest
with_byte yields stop b rest = ahead (b ∷ []) 1 rest
with_byte ends stop b rest = stop

-- what bytes make of a chunked body whose reader stands here
abbrev pub chunked : Chunking → List ℕ → Body
chunked s [] = stop_of (state_of s)
chunked s (b ∷ bytes) = with_byte (use_of s) (stop_of (state_of s)) b (chunked (step s b) bytes)
