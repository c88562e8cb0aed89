-- Writing a reply (RFC 9112, sections 4 to 7): all its parts.
pub use Rattle.h1_server.specs.Writes.{Writes, WritesPiece, WritesEnd, EndsShort, EndCall}
pub use Rattle.h1_transfer.specs.Writes.{IsSameMessage, IsFree, IsWaiting, IsRefused}
pub use Rattle.h1_server.specs.HeaderWrites.{IsHeaderStep, HeaderCall, HeaderWrite, WritesHeader, KeepsHeader, PassesHeader, TakesHeader, HeaderTaking, HeaderAnswer, HeaderRefusal, IsHeadFlushed, OwesHead, keep_after, is_passed_over, kept_by}
pub use Rattle.h1_transfer.specs.PieceWrites.{PieceTaking, PieceAnswer}
pub use Rattle.h1_transfer.specs.BodyWrites.{IsPieceStep, piece_count, IsEndStep}
pub use Rattle.h1_transfer.specs.EndWrites.{WritesNoEnd, EndTaking, EndAnswer, EndStage, starts, falls_short, goes_on, end_stage, stage_of}
