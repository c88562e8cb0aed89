-- The names of other crates, and of declared types, that these specs and proofs speak in.
pub use Rattle.futures.specs.declared.task.Poll.TheVariants.{Ready}
pub use Rattle.h1_application.specs.Application.{GivesReply, ReadsAtOnce, ReadsInTime, ReadsOnly, how_of, payload_of}
pub use Rattle.h1_echo.specs.declared.echo.Stopped.{Stopped}
pub use Rattle.h1_error.specs.Memory.{no_memory}
pub use Rattle.h1_error.specs.declared.error.Error.{Error}
pub use Rattle.h1_error.specs.declared.error.ErrorType.{ErrorType}
pub use Rattle.h1_error.specs.declared.error.ErrorType.TheVariants.{NoMemory}
pub use Rattle.h1_head.specs.Faults.{RefusedFor, line_fault}
pub use Rattle.h1_head.specs.Response.{new_response}
pub use Rattle.h1_head.specs.Views.{RequestView, ResponseView}
pub use Rattle.h1_link.specs.LinkState.{LinkState}
pub use Rattle.h1_server.specs.SessionView.{SessionView}
pub use Rattle.h1_server.specs.declared.settings.Settings.{Settings}
pub use Rattle.h1_transcript.specs.Given.{Given}
pub use Rattle.h1_transcript.specs.Lawful.{IsLawful}
pub use Rattle.h1_transcript.specs.declared.reply.Reply.{Reply}
pub use Rattle.h1_transcript.specs.declared.entry.How.TheVariants.{Failed, Open, Whole}
