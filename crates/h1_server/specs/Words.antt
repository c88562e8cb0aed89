-- The names of other crates, and of declared types, that these specs and proofs speak in.
pub use Rattle.futures.specs.declared.task.Poll.{Poll}
pub use Rattle.futures.specs.declared.task.Poll.TheVariants.{Pending, Ready}
pub use Rattle.h1_body.specs.Framing.{framing}
pub use Rattle.h1_body.specs.Reader.{body, reads}
pub use Rattle.h1_body.specs.declared.framing.Framing.{Framing}
pub use Rattle.h1_cut.specs.Search.{HasLooked}
pub use Rattle.h1_cut.specs.declared.search.HeadSearch.{HeadSearch}
pub use Rattle.h1_error.specs.declared.error.Error.{Error}
pub use Rattle.h1_error.specs.declared.error.ErrorType.{ErrorType}
pub use Rattle.h1_error.specs.declared.head_fault.HeadFault.{HeadFault}
pub use Rattle.h1_head.specs.Date.{IsDateAt}
pub use Rattle.h1_head.specs.RequestGrammar.{IsReadAs}
pub use Rattle.h1_head.specs.RequestHead.{HeadAt, NotYetAt, RefusedAt}
pub use Rattle.h1_head.specs.Versions.{is_http_1}
pub use Rattle.h1_head.specs.Views.{ResponseView}
pub use Rattle.h1_head.specs.Wire.{head_bytes, reply_head}
pub use Rattle.h1_head.specs.Wish.{wish}
pub use Rattle.h1_head.specs.declared.limits.TheConstants.{MAX_HEADER_SIZE}
pub use Rattle.h1_link.specs.LinkState.{LinkState}
pub use Rattle.h1_server.specs.declared.request.ReadRequest.{ReadRequest}
pub use Rattle.h1_server.specs.declared.request.Request.{Request}
pub use Rattle.h1_server.specs.declared.settings.Settings.{Settings}
pub use Rattle.h1_transfer.specs.Fresh.{IsNoBody, no_reply}
pub use Rattle.h1_transfer.specs.ReplyFraming.{flushes_head}
pub use Rattle.h1_transfer.specs.TransferView.{TransferView}
pub use Rattle.h1_transfer.specs.declared.body.BodyState.{BodyState}
pub use Rattle.h1_transfer.specs.declared.outgoing.Outgoing.{Outgoing}
pub use Rattle.h1_transfer.specs.declared.outgoing.Step.TheVariants.{Head}
pub use Rattle.h1_transfer.specs.declared.reading_head.HeadRead.{HeadRead}
pub use Rattle.h1_transfer.specs.declared.reading_head.HeadStop.{HeadStop}
