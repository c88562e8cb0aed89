-- Lemmas on payload that is noted as it is read.
use Rattle.std.proofs.Common.{◌≡◌, ◌<◌, ℕ, List, ◌++◌, length, drop, slice_range, refl, ap, ◌∙◌, length-append, arith, take-append-drop}
use Rattle.h1_body.specs.Body.{Body, whole, unfinished, broken, ahead, payload_of}
use Rattle.h1_body.specs.Feeds.{Feeds}
use Rattle.h1_body.specs.Payload.{IsPast}
use Rattle.h1_body.specs.Reader.{reads}
use Rattle.h1_body.specs.Takes.{IsNextRun}
use Rattle.h1_body.specs.declared.reader.BodyReader.{BodyReader}
use Rattle.h1_body.specs.declared.fed.Fed.{Fed}

pub payload_ahead : (front : List ℕ) (used : ℕ) (b : Body) → payload_of (ahead front used b) ≡ front ++ payload_of b
payload_ahead front used (whole payload n) = refl
payload_ahead front used (unfinished payload) = refl
payload_ahead front used (broken payload) = refl

-- the payload of a piece is the first of what the reader makes of it
fed_first : (before behind : List ℕ → Body) (piece : List ℕ) (fed : Fed) → Feeds before behind piece fed
    → payload_of (before piece)
    ≡ slice_range piece fed.payload.start fed.payload.end ++ payload_of (behind (drop fed.used piece))
fed_first before behind piece fed feeds =
    let all = feeds.reads (drop fed.used piece) in
    ap payload_of (rw (take-append-drop fed.used piece) at all)
    ∙ payload_ahead (slice_range piece fed.payload.start fed.payload.end) fed.used (behind (drop fed.used piece))

-- a run that goes past the limit begins a body that does
pub goes_past : {reader : BodyReader} {bytes run : List ℕ} (limit : ℕ) (front : List ℕ)
    → IsNextRun reader bytes run → limit < length (front ++ run)
    → IsPast limit front (reads reader bytes)
goes_past {reader} {bytes} {run} limit front next past =
    let first = ap length (fed_first (reads reader) (reads next.behind) bytes next.fed next.feeds) in
    let is = ap length next.is in
    let rest = payload_of (reads next.behind (drop next.fed.used bytes)) in
    let slice = slice_range bytes next.fed.payload.start next.fed.payload.end in
    omega (
      arith,
      past,
      first,
      is,
      length-append front run,
      length-append front (payload_of (reads reader bytes)),
      length-append slice rest,
    )
