-- The names of other crates, and of declared types, that these specs and proofs speak in.
pub use Rattle.h1_body.specs.Body.{Body, broken, payload_of, unfinished, whole}
pub use Rattle.h1_body.specs.Framing.{framing, out}
pub use Rattle.h1_body.specs.Laws.{GrowsTo}
pub use Rattle.h1_body.specs.Reader.{body}
pub use Rattle.h1_body.specs.declared.framing.Framing.{Framing}
pub use Rattle.h1_body.specs.declared.framing.Framing.TheVariants.{Chunked, Counted, UntilClose}
pub use Rattle.h1_error.specs.declared.error.Error.{Error}
pub use Rattle.h1_error.specs.declared.error.ErrorType.{ErrorType}
pub use Rattle.h1_error.specs.declared.error.ErrorType.TheVariants.{ReadError}
pub use Rattle.h1_error.specs.declared.head_fault.HeadFault.{HeadFault}
pub use Rattle.h1_error.specs.declared.progress.End.{End}
pub use Rattle.h1_head.specs.RequestHead.{HeadAt, RefusedAt}
pub use Rattle.h1_head.specs.Views.{RequestView, ResponseView}
pub use Rattle.h1_head.specs.Wish.{wish}
pub use Rattle.h1_link.specs.Counts.{Rose}
pub use Rattle.h1_link.specs.LinkState.{LinkState}
pub use Rattle.h1_server.specs.Persistence.{has_reuses}
pub use Rattle.h1_server.specs.declared.settings.Settings.{Settings}
pub use Rattle.h1_transcript.specs.declared.reply.Reply.{Reply}
pub use Rattle.h1_transcript.specs.Entry.{Entry}
pub use Rattle.h1_transcript.specs.declared.entry.How.{How}
pub use Rattle.h1_transcript.specs.declared.entry.How.TheVariants.{Failed, Open, Whole}
pub use Rattle.h1_transcript.specs.declared.history.History.{History}
pub use Rattle.h1_transcript.specs.declared.history.Holding.{Holding}
pub use Rattle.h1_transcript.specs.declared.transcript.TheConstants.{KEEPALIVE_SECONDS}
pub use Rattle.h1_transfer.specs.BodyErrors.{SaysOfBody}
pub use Rattle.std.specs.List.{AllByRecursion}
