-- Writing a piece of a body (RFC 9112, section 6).
use Rattle.std.specs.Prelude.{◌≡◌, ℕ, ◌<◌, nat_lt, Bool, List, [], length, false, Option, Some, None, Result, Ok, Err}
use Rattle.h1_transfer.specs.Words.{Poll, Ready, Pending, Error, ErrorType, LinkState, Rose, piece_bytes, after_piece, Outgoing, Step, Free, Piece}
use Rattle.h1_transfer.specs.BodyWrites.{piece_count}
use Rattle.h1_transfer.specs.TransferView.{Holds}
use Rattle.h1_transfer.specs.Writes.{Writes, IsSameBody, IsFree, IsWaiting, IsRefused}
use Rattle.h1_transfer.specs.Budget.{allowance}
use Rattle.h1_transfer.specs.Deadline.{IsTimed, Noted, noted_since}
use Rattle.h1_transfer.specs.declared.deadline.Deadline.{Deadline}
use Rattle.h1_error.specs.declared.error.ErrorType.TheVariants as kind

-- what a body call takes up: the piece that is handed in
abbrev pub PieceTaking : Outgoing → Outgoing → List ℕ → Option (List ℕ) → Type 0
PieceTaking old new taking None = (taking ≡ []) × IsSameBody old new
PieceTaking old new taking (Some piece) =
    (taking ≡ piece_bytes old.writer piece) × (new.headed ≡ old.headed)
    × (new.writer ≡ after_piece old.writer piece) × (new.handed ≡ length piece)

-- when a piece is refused: as any write is, or because it waited too long, which each later write
-- answers again
abbrev pub RefusesPiece : LinkState → LinkState → Outgoing → Step → Error → ErrorType → Type 0
RefusesPiece before now new step error kind.WriteTimedout =
    (new.step ≡ Free) × (new.refused ≡ Some error) × (0 < length new.owed)
RefusesPiece before now new step error kind = IsRefused before now new step error kind

-- the answer of a body call: how much of the piece was taken, once all of it is written
abbrev pub PieceAnswer : LinkState → LinkState → Outgoing → Option ℕ → ℕ
    → Poll (Result (Option ℕ) Error) → Type 0
PieceAnswer before now new count left (Ready (Ok told)) = IsFree new × (told ≡ count)
PieceAnswer before now new count left Pending =
    IsWaiting before now new (Piece count) left × (0 < length new.owed)
PieceAnswer before now new count left (Ready (Err error)) =
    RefusesPiece before now new (Piece count) error error.kind × (error.retry ≡ false)

-- what is noted of the wait of a piece, in a call that moved bytes or didn't
abbrev pub noted_piece : LinkState → LinkState → Outgoing → Outgoing → Deadline → Bool → Noted
noted_piece before now old new deadline moved =
    noted_since (Rose before.write_waits now.write_waits)
    (record { deadline = deadline; moved = moved; since = old.write_since }) new.write_since

-- one call that writes a piece of the body, which may wait for the link so long
pub record WritesPiece {L S : Type 0} (state : L → LinkState) (holds : Holds L S)
    (deadline : Deadline) (old new : S) (piece kept : Option (List ℕ))
    (outcome : Poll (Result (Option ℕ) Error)) : Type 0 where
  pub taking : List ℕ
  pub left : ℕ
  pub writes : Writes state holds old new taking left
  pub takes : PieceTaking (holds.transfer old).outgoing (holds.transfer new).outgoing taking piece
  pub out : kept ≡ None
  pub answer : PieceAnswer (state (holds.transfer old).link) (state (holds.transfer new).link)
      (holds.transfer new).outgoing
      (piece_count (holds.transfer old).outgoing piece) left outcome
  pub timed : IsTimed (noted_piece (state (holds.transfer old).link)
      (state (holds.transfer new).link) (holds.transfer old).outgoing (holds.transfer new).outgoing
      deadline (nat_lt left (allowance (holds.transfer old).budget)))
      left outcome
