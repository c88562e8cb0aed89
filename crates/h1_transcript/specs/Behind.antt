-- What stands after the exchanges of a connection that ended: their requests were read, each whole,
-- and their replies were written, each whole and flushed (RFC 9112, section 9.3).
use Rattle.std.specs.Prelude.{◌≡◌, ℕ, ◌+◌, ◌-◌, ◌^◌, ◌<◌, List, [], ◌∷◌, ◌++◌, length, drop, min, Bool, true, false, Option, Some, None, IfSome, IsSome}
use Rattle.h1_transcript.specs.Words.{LinkState, ResponseView, HeadAt, Body, whole, framing, out, Framing, Counted, Chunked, UntilClose, Entry, How, Open, Whole, Failed}
use Rattle.h1_link.specs.Counts.{RoseBy}
use Rattle.h1_body.specs.Reader as reader
use Rattle.h1_transcript.specs.Exchange.{render, is_short}

-- fewer bytes than the request states as its body's length
abbrev pub IsBelow : Framing → ℕ → Type 0
IsBelow (Counted n) handed = handed < n
IsBelow Chunked handed = Unit {0}
IsBelow UntilClose handed = Unit {0}

-- How the request's body stood (RFC 9112, section 6): the payload of all of it was handed in, or
-- its end was still to come, or the reading of it was refused.
abbrev pub StoodAs : How → Entry → Body → Type 0
StoodAs Whole e body =
    (e.body_error ≡ None) × (e.handed ≡ length e.body) × ((used : ℕ) × (body ≡ whole e.body used))
StoodAs Open e body = (e.body_error ≡ None) × IsBelow (framing e.head) e.handed
StoodAs Failed e body = IsSome e.body_error

-- The bytes are the requests of these exchanges, and the rest after them. Each body was read whole
-- and not refused, and stood as the exchange says when it was replied to.
abbrev pub ReadBehind : List ℕ → List Entry → List ℕ → Type 0
ReadBehind since [] rest = since ≡ rest
ReadBehind since (e ∷ more) rest =
    (n : ℕ) × HeadAt since n e.head e.both
    × (k : ℕ) × (reader.body (framing e.head) (drop n since) ≡ whole e.body k)
    × (e.body_error ≡ None) × IfSome e.reply (λ reply. StoodAs e.how e (whole e.body k))
    × ReadBehind (drop k (drop n since)) more rest

-- the bytes are the replies of these exchanges, each whole, and the rest after them
abbrev pub WroteBehind : List ℕ → List Entry → List ℕ → Type 0
WroteBehind since [] rest = since ≡ rest
WroteBehind since (e ∷ more) rest =
    (later : List ℕ) × (since ≡ render e ++ later)
    × (e.written ≡ min (length (render e)) (2 ^ 64 - 1)) × WroteBehind later more rest

-- this holds of what was read after these exchanges
abbrev pub AfterRead : List Entry → (List ℕ → Type 0) → List ℕ → Type 0
AfterRead done P since = (rest : List ℕ) × ReadBehind since done rest × P rest

-- this holds of what was written after these exchanges
abbrev pub AfterWrote : List Entry → (List ℕ → Type 0) → List ℕ → Type 0
AfterWrote done P since = (rest : List ℕ) × WroteBehind since done rest × P rest

-- how many bytes of the replies of these exchanges were written
abbrev pub written_of : List Entry → ℕ
written_of [] = 0
written_of (e ∷ more) = e.written + written_of more

-- the reply ends where the link does
abbrev pub is_until_close : Entry → Bool
is_until_close e = ends_so e.sent_head where
  ends_so : Option ResponseView → Bool
  ends_so None = false
  ends_so (Some head) = reader.is_until_close (out e.head.method head)

-- a complete reply that says that the connection is kept, and ends by its own framing
pub record IsDoneAt (flushed : ℕ → Type 0) (total : ℕ) (e : Entry) : Type 0 where
  pub sent_head : IsSome e.sent_head
  pub sent_body : IsSome e.sent_body
  pub flushed_so : flushed total
  pub long : is_short e ≡ false
  pub keep : e.keep ≡ true
  pub closes : is_until_close e ≡ false

-- each of these exchanges is done, and its reply flushed; `total` bytes were written before them
abbrev pub DoneBehind : (ℕ → Type 0) → ℕ → List Entry → Type 0
DoneBehind flushed total [] = Unit {0}
DoneBehind flushed total (e ∷ more) =
    IsDoneAt flushed (total + e.written) e × DoneBehind flushed (total + e.written) more

-- so many bytes were flushed between these states of a link
abbrev pub FlushedBy : LinkState → LinkState → ℕ → Type 0
FlushedBy before now total = RoseBy total before.bytes_out now.flushed
