-- The names of other crates, and of declared types, that these specs and proofs speak in.
pub use Rattle.futures.specs.declared.task.Poll.{Poll}
pub use Rattle.futures.specs.declared.task.Poll.TheVariants.{Pending, Ready}
pub use Rattle.h1_body.specs.Body.{Body, ahead, broken, stop_of, unfinished, whole}
pub use Rattle.h1_body.specs.Feeds.{Feeds}
pub use Rattle.h1_body.specs.Payload.{IsPast, Payload, grown}
pub use Rattle.h1_body.specs.Reader.{reads}
pub use Rattle.h1_body.specs.Writer.{after_piece, end_bytes, is_short, piece_bytes}
pub use Rattle.h1_body.specs.declared.fed.FeedState.{FeedState}
pub use Rattle.h1_body.specs.declared.framing.Framing.TheVariants.{Counted}
pub use Rattle.h1_body.specs.declared.reader.BodyReader.{BodyReader}
pub use Rattle.h1_error.specs.declared.error.Error.{Error}
pub use Rattle.h1_error.specs.declared.error.ErrorType.{ErrorType}
pub use Rattle.h1_link.specs.Counts.{Rose}
pub use Rattle.h1_link.specs.Later.{Later}
pub use Rattle.h1_link.specs.LinkState.{LinkState}
pub use Rattle.h1_link.specs.declared.link.FlushStep.{FlushStep}
pub use Rattle.h1_transfer.specs.declared.body.BodyState.{BodyState}
pub use Rattle.h1_transfer.specs.declared.delivering.Delivery.{Delivery}
pub use Rattle.h1_transfer.specs.declared.outgoing.Outgoing.{Outgoing}
pub use Rattle.h1_transfer.specs.declared.outgoing.Step.{Step}
pub use Rattle.h1_transfer.specs.declared.outgoing.Step.TheVariants.{Finish, Free, Head, Piece}
pub use Rattle.h1_transfer.specs.declared.reading_body.BodyRead.{BodyRead}
pub use Rattle.h1_transfer.specs.declared.reading_body.BodyStop.{BodyStop}
pub use Rattle.h1_transfer.specs.declared.receiving.Filled.{Filled}
pub use Rattle.h1_transfer.specs.declared.receiving.Filled.TheVariants.{End, Got}
pub use Rattle.h1_transfer.specs.declared.sending.Sending.{Sending}
pub use Rattle.h1_transfer.specs.declared.taking.TakeStep.{TakeStep}
pub use Rattle.h1_transfer.specs.declared.writing_body.EndTaken.{EndTaken}
pub use Rattle.std.specs.Io.KnownBytes.{append_known}
