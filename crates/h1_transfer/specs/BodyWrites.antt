-- Taking up the pieces and the end of a body (RFC 9112, sections 6 and 7).
use Rattle.std.specs.Prelude.{◌≡◌, ℕ, ◌⊎◌, List, length, true, false, Option, Some, None, IsTrue, Result, Ok, Err, if◌then◌else◌}
use Rattle.h1_transfer.specs.Words.{Error, piece_bytes, after_piece, end_bytes, is_short, Outgoing, Step, Free, Head, Piece, Finish, EndTaken}
use Rattle.h1_error.specs.declared.error.ErrorType.TheVariants.{PrematureBodyEnd}
use Rattle.h1_body.specs.Writer.{taken}
use Rattle.h1_transfer.specs.ReplyFraming.{is_begun, admits}
use Rattle.h1_transfer.specs.declared.writing_body.EndTaken.TheVariants as e

-- a piece is handed in exactly where no write is in progress, and only its own call goes on
abbrev pub IsPieceStep : Option (List ℕ) → Step → Type 0
IsPieceStep (Some piece) step = step ≡ Free
IsPieceStep None step = (count : Option ℕ) × (step ≡ Piece count)

-- how much of a piece its call takes, None where none is admitted any more
abbrev pub piece_count : Outgoing → Option (List ℕ) → Option ℕ
piece_count outgoing (Some piece) =
    if admits outgoing.writer then Some (length (taken outgoing.writer piece)) else None
piece_count outgoing None = count_at outgoing.step where
  count_at : Step → Option ℕ
  count_at Free = None
  count_at Head = None
  count_at (Piece count) = count
  count_at Finish = None

-- the end is begun where no write is in progress, and only its own call goes on
abbrev pub IsEndStep : Step → Type 0
IsEndStep step = (step ≡ Free) ⊎ (step ≡ Finish)

-- what is taken up doesn't touch the refusal, the count of written bytes and the wait
pub record IsTakenUp (old new : Outgoing) (next : Step) : Type 0 where
  pub step : new.step ≡ next
  pub refused : new.refused ≡ old.refused
  pub sent : new.sent ≡ old.sent
  pub write_since : new.write_since ≡ old.write_since

-- a piece that is handed in is taken up, and nothing where its call goes on
abbrev pub TakesUpPiece : Outgoing → Outgoing → Option (List ℕ) → Type 0
TakesUpPiece old new None = new ≡ old
TakesUpPiece old new (Some piece) =
    (new ≡ record old {
      owed = piece_bytes old.writer piece;
      writer = after_piece old.writer piece;
      step = Piece (piece_count old (Some piece));
      handed = length piece;
    })

-- the length of the piece that a call writes: of the one that is handed in, or of the one that was
abbrev pub piece_len : Outgoing → Option (List ℕ) → ℕ
piece_len outgoing (Some piece) = length piece
piece_len outgoing None = outgoing.handed

-- what becomes of the end of the body
abbrev pub TakesUpEnd : Outgoing → Outgoing → Result EndTaken Error → Type 0
TakesUpEnd old new (Ok e.Nothing) = (new ≡ old) × (is_begun old.writer ≡ false) × (old.step ≡ Free)
TakesUpEnd old new (Ok e.GoesOn) = (new ≡ old) × (old.step ≡ Finish)
TakesUpEnd old new (Ok e.Starts) =
    (old.step ≡ Free) × (is_begun old.writer ≡ true) × (is_short old.writer ≡ false)
    × (new ≡ record old {
      owed = end_bytes old.writer;
      writer = record old.writer { ended = true };
      step = Finish;
    })
TakesUpEnd old new (Err error) =
    (old.step ≡ Free) × (is_begun old.writer ≡ true) × IsTrue (is_short old.writer)
    × (new ≡ record old { writer = record old.writer { ended = true } })
    × (error ≡ record { kind = PrematureBodyEnd; retry = false })
