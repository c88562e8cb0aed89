-- The names of other crates, and of declared types, that these specs and proofs speak in.
pub use Rattle.futures.specs.declared.task.Poll.{Poll}
pub use Rattle.futures.specs.declared.task.Poll.TheVariants.{Pending, Ready}
pub use Rattle.h1_body.specs.Body.{Body, ahead, broken, unfinished, whole}
pub use Rattle.h1_body.specs.Framing.{framing}
pub use Rattle.h1_body.specs.Reader.{body, reads}
pub use Rattle.h1_body.specs.Writer.{WriterView, begun, is_short, until_close}
pub use Rattle.h1_body.specs.declared.framing.Framing.{Framing}
pub use Rattle.h1_body.specs.declared.framing.Framing.TheVariants.{Chunked, Counted, UntilClose}
pub use Rattle.h1_body.specs.declared.reader.BodyReader.{BodyReader}
pub use Rattle.h1_cut.specs.Search.{HasLooked}
pub use Rattle.h1_cut.specs.declared.search.HeadSearch.{HeadSearch}
pub use Rattle.h1_error.specs.declared.error.Error.{Error}
pub use Rattle.h1_error.specs.declared.error.ErrorType.{ErrorType}
pub use Rattle.h1_error.specs.declared.head_fault.HeadFault.{HeadFault}
pub use Rattle.h1_head.specs.RequestHead.{NotYetAt}
pub use Rattle.h1_head.specs.Views.{RequestView, ResponseView}
pub use Rattle.h1_head.specs.Wire.{request_bytes}
pub use Rattle.h1_head.specs.declared.limits.TheConstants.{MAX_HEADER_SIZE}
pub use Rattle.h1_link.specs.LinkState.{LinkState}
pub use Rattle.h1_head.specs.Interim.{is_interim}
pub use Rattle.h1_head.specs.ResponseHead.{IsAccepted, IsWholeAt, RefusedAt}
pub use Rattle.h1_head.specs.declared.response_head.ResponseHead.{ResponseHead}
pub use Rattle.h1_transfer.specs.Fresh.{no_reply}
pub use Rattle.h1_transfer.specs.TransferView.{TransferView, itself}
pub use Rattle.h1_transfer.specs.declared.body.BodyState.{BodyState}
pub use Rattle.h1_transfer.specs.declared.deadline.Deadline.{Deadline}
pub use Rattle.h1_transfer.specs.declared.outgoing.Outgoing.{Outgoing}
pub use Rattle.h1_transfer.specs.declared.outgoing.Step.{Step}
pub use Rattle.h1_transfer.specs.declared.outgoing.Step.TheVariants.{Finish, Free, Head, Piece}
pub use Rattle.h1_transfer.specs.declared.reading_head.HeadRead.{HeadRead}
pub use Rattle.h1_transfer.specs.declared.reading_head.HeadStop.{HeadStop}
