-- What one call of a reader makes of a piece of a body (RFC 9112, section 6).
use Rattle.std.specs.Prelude.{◌≡◌, ℕ, ◌-◌, ◌<◌, ◌≤◌, ◌⊎◌, List, [], ◌∷◌, ◌++◌, length, take, slice_range}
use Rattle.h1_body.specs.Body.{Body, unfinished, ahead, stop_of, payload_of}
use Rattle.h1_body.specs.declared.fed.FeedState.{FeedState}
use Rattle.h1_body.specs.declared.fed.FeedState.TheVariants.{More, Done, Broken}
use Rattle.h1_body.specs.declared.fed.Fed.{Fed}

-- the answer where all bytes through the end of the payload were used
abbrev pub fed_of : ℕ → ℕ → FeedState → Fed
fed_of start end state =
    record { payload = record { start = start; end = end }; used = end; state = state }

abbrev pub IsEnd : FeedState → Type 0
IsEnd More = ⊥
IsEnd Done = Unit {0}
IsEnd Broken = Unit {0}

-- `before` and `after` are what the reader made of the bytes that follow, before the call and
-- after it
pub record Feeds (before behind : List ℕ → Body) (piece : List ℕ) (fed : Fed) : Type 0 where
  pub ordered : fed.payload.start ≤ fed.payload.end
  pub used_up : fed.payload.end ≡ fed.used
  pub within : fed.used ≤ length piece
  -- no payload comes before the run
  pub front : payload_of (before (take fed.payload.start piece)) ≡ []
  pub reads : (more : List ℕ) → before (take fed.used piece ++ more)
      ≡ ahead (slice_range piece fed.payload.start fed.payload.end) fed.used (behind more)
  -- the state is that of all bytes used so far
  pub state : stop_of fed.state ≡ behind []
  -- at least one byte of a piece is used, unless the reader was at an end before; then none is
  pub moves : (before [] ≡ unfinished []) → 0 < length piece → 0 < fed.used
  pub stays : (before [] ≡ unfinished []) ⊎ (fed.used ≡ 0)
  -- it stops after a run that no byte prolongs, at an end, or at the end of the piece
  pub rests : (fed.used ≡ length piece) ⊎ (IsEnd fed.state
      ⊎ ((fed.payload.start < fed.payload.end) × ((b : ℕ) → payload_of (behind (b ∷ [])) ≡ [])))
  -- before the last byte used the body was not at an end
  pub first : 0 < fed.used → before (take (fed.used - 1) piece)
      ≡ unfinished (slice_range piece fed.payload.start (fed.payload.end - 1))
