-- The names of other crates, and of declared types, that these specs and proofs speak in.
pub use Rattle.futures.specs.declared.task.Poll.{Poll}
pub use Rattle.futures.specs.declared.task.Poll.TheVariants.{Pending, Ready}
pub use Rattle.h1_app.specs.declared.exchange.Exchange.{Exchange}
pub use Rattle.h1_app.specs.declared.exchange.Outcome.{Outcome}
pub use Rattle.h1_app.specs.declared.exchange.Stage.{Stage}
pub use Rattle.h1_application.specs.Application.{ReadsOnly, given_by, how_of, how_stands, payload_of}
pub use Rattle.h1_body.specs.Body.{Body, ahead, broken, unfinished, whole}
pub use Rattle.h1_body.specs.Chunks.{chunked}
pub use Rattle.h1_body.specs.Framing.{framing, is_head, out}
pub use Rattle.h1_body.specs.Laws.{GrowsTo}
pub use Rattle.h1_body.specs.Payload.{IsPast, Payload, grown}
pub use Rattle.h1_body.specs.Read.{HasRead}
pub use Rattle.h1_body.specs.Reader.{body, read_as, reads}
pub use Rattle.h1_body.specs.Writer.{WriterView, after_piece, begun, end_bytes}
pub use Rattle.h1_body.specs.declared.chunking.Chunking.{Chunking}
pub use Rattle.h1_body.specs.declared.framing.Framing.{Framing}
pub use Rattle.h1_body.specs.declared.framing.Framing.TheVariants.{Chunked, Counted, UntilClose}
pub use Rattle.h1_body.specs.declared.reader.BodyReader.{BodyReader}
pub use Rattle.h1_body.specs.declared.reader.Reading.{Reading}
pub use Rattle.h1_error.specs.Memory.{no_memory}
pub use Rattle.h1_error.specs.declared.error.Error.{Error}
pub use Rattle.h1_error.specs.declared.error.ErrorType.{ErrorType}
pub use Rattle.h1_error.specs.declared.moment.TheConstants.{YEAR_10000}
pub use Rattle.h1_error.specs.declared.progress.End.{End}
pub use Rattle.h1_error.specs.declared.progress.Progress.{Progress}
pub use Rattle.h1_error.specs.declared.progress.Waiting.{Waiting}
pub use Rattle.h1_head.specs.Date.{IsDateAt}
pub use Rattle.h1_head.specs.RequestHead.{HeadAt}
pub use Rattle.h1_head.specs.Views.{RequestView, ResponseView}
pub use Rattle.h1_head.specs.Wire.{head_bytes, reply_head}
pub use Rattle.h1_head.specs.Wish.{wish}
pub use Rattle.h1_link.specs.Counts.{Rose, RoseBy, raised}
pub use Rattle.h1_link.specs.Later.{Later}
pub use Rattle.h1_link.specs.LinkState.{LinkState}
pub use Rattle.h1_server.specs.HeaderWrites.{HeaderAnswer, HeaderCall, HeaderWrite, WritesHeader, is_passed_over}
pub use Rattle.h1_server.specs.Keepalive.{keepalive_set}
pub use Rattle.h1_server.specs.Payload.{BodyRefusal}
pub use Rattle.h1_server.specs.Persistence.{has_reuses, is_replied, is_whole, keeps_alive, may_follow, may_go_on}
pub use Rattle.h1_server.specs.Reuse.{AwaitsNext, ReusesBy, one_less}
pub use Rattle.h1_server.specs.SessionView.{SessionView}
pub use Rattle.h1_server.specs.Writes.{EndCall, Writes, WritesPiece}
pub use Rattle.h1_server.specs.declared.request.Request.{Request}
pub use Rattle.h1_server.specs.declared.settings.Settings.{Settings}
pub use Rattle.h1_transcript.specs.Alone.{JoinAlone, WithinRead}
pub use Rattle.h1_transcript.specs.Begun.{AreBegun, BeginsIn, Terms, BeginsWith, IsNextSet, IsSetAlike, head_time, reuses_at}
pub use Rattle.h1_transcript.specs.Behind.{AfterRead, AfterWrote, DoneBehind, FlushedBy, IsBelow, ReadBehind, StoodAs, WroteBehind, is_until_close, written_of}
pub use Rattle.h1_transcript.specs.Ends.{AreAllDone, EndCause, FailureCause, IsComplete, IsWrittenShort, LacksSo, LastStands, OfLast}
pub use Rattle.h1_transcript.specs.Entries.{TranscriptView, replies}
pub use Rattle.h1_transcript.specs.Exchange.{IsAllowed, IsDated, given_to, is_short, may_keep, render, render_parts, shown}
pub use Rattle.h1_transcript.specs.Given.{Given}
pub use Rattle.h1_transcript.specs.Growth.{Extends, ExtendsLast, Grows, Stays}
pub use Rattle.h1_transcript.specs.Lawful.{IsLawful, LawfulReplies}
pub use Rattle.h1_transcript.specs.Refusals.{EndsBy, IsRefusedBy, IsWrittenSoFar, RefusesLast}
pub use Rattle.h1_transcript.specs.Rules.{ArePlain, Filters, LawfulRules, Rules}
pub use Rattle.h1_transcript.specs.Told.{IfTold, ToldGrowth}
pub use Rattle.h1_transcript.specs.declared.reply.Reply.{Reply}
pub use Rattle.h1_transcript.specs.Entry.{Entry, payload_in}
pub use Rattle.h1_transcript.specs.declared.entry.How.{How}
pub use Rattle.h1_transcript.specs.declared.history.History.{History}
pub use Rattle.h1_transcript.specs.declared.history.Holding.{Holding}
pub use Rattle.h1_transcript.specs.declared.history.History.TheVariants.{Kept}
pub use Rattle.h1_transcript.specs.declared.entry.How.TheVariants.{Failed, Open, Whole}
pub use Rattle.h1_transfer.specs.Budget.{allowance}
pub use Rattle.h1_transfer.specs.Calls.{Called, Fault, FaultsBy}
pub use Rattle.h1_transfer.specs.Decoding.{Decoded, Lacks}
pub use Rattle.h1_transfer.specs.EndWrites.{stage_of}
pub use Rattle.h1_transfer.specs.Moved.{Moved, Received}
pub use Rattle.h1_transfer.specs.Writes.{IsRefused}
pub use Rattle.h1_transfer.specs.declared.body.BodyState.{BodyState}
pub use Rattle.h1_transfer.specs.declared.outgoing.Outgoing.{Outgoing}
pub use Rattle.h1_transfer.specs.declared.outgoing.Step.{Step}
pub use Rattle.std.specs.Arc.{arc_value}
pub use Rattle.std.specs.List.{AllByRecursion}
