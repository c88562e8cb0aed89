-- When the link of a session serves the next exchange (RFC 9112, section 9.3).
use Rattle.std.specs.Prelude.{ℕ, List, [], ◌∷◌, Bool, true, false, ◌&&◌, ◌||◌, ◌==◌, not, is_some, is_none}
use Rattle.h1_client.specs.Words.{Body, whole, unfinished, broken, reads, BodyReader, BodyState, Outgoing, Step, Free, Head, Piece, Finish}
use Rattle.h1_client.specs.Written.{is_written}
use Rattle.h1_client.specs.ClientView.{ClientView, request_of, response_of}
use Rattle.h1_client.specs.Keeping.{keep_of}
use Rattle.h1_client.specs.declared.keeping.Keepalive.{Keepalive}
use Rattle.h1_client.specs.declared.keeping.Keepalive.TheVariants.{Off, On}

abbrev pub is_on : Keepalive → Bool
is_on Off = false
is_on (On deadline) = true

abbrev pub is_free : Step → Bool
is_free Free = true
is_free Head = false
is_free (Piece count) = false
is_free Finish = false

abbrev pub is_nothing : List ℕ → Bool
is_nothing [] = true
is_nothing (b ∷ bytes) = false

-- nothing more is to come of the body
abbrev pub is_whole : Body → Bool
is_whole (whole payload used) = is_nothing payload && used == 0
is_whole (unfinished payload) = false
is_whole (broken payload) = false

-- the body of the response was read to its end
abbrev pub is_at_end : BodyReader → Bool
is_at_end reader = is_whole (reads reader [])

-- nothing more is read of this body: it ended or failed
abbrev pub is_over : BodyState → Bool
is_over body = is_at_end body.reader || is_some body.refused

-- bytes came behind the response
abbrev pub is_overread : BodyReader → List ℕ → Bool
is_overread reader received = is_at_end reader && not (is_nothing received)

-- the request is written to its end, and flushed
abbrev pub is_sent : Outgoing → Bool
is_sent out =
    is_free out.step && is_none out.refused && is_nothing out.owed && is_written out.writer

-- the request is written whole, the final response is read whole, and nothing came behind it
abbrev pub is_exchanged : {L : Type 0} → ClientView L → Bool
is_exchanged s = is_some (request_of s) && is_some (response_of s) && is_sent s.transfer.outgoing
    && is_at_end s.transfer.body.reader && is_nothing s.transfer.received

-- the link may serve the next request: keep-alive is on, and the exchange is whole
abbrev pub is_reusable : {L : Type 0} → ClientView L → Bool
is_reusable s = is_on s.keepalive && is_exchanged s

-- the body of the response ended or failed
abbrev pub is_body_done : {L : Type 0} → ClientView L → Bool
is_body_done s = is_over s.transfer.body

-- the session once keep-alive was set by what both sides said of it
abbrev pub respected : {L : Type 0} → ClientView L → ClientView L
respected s = record s {
  keepalive = keep_of (request_of s) (response_of s)
      (is_overread s.transfer.body.reader s.transfer.received);
}
