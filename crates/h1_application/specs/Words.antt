-- The names of other crates, and of declared types, that these specs and proofs speak in.
pub use Rattle.futures.specs.declared.task.Poll.{Poll}
pub use Rattle.futures.specs.declared.task.Poll.TheVariants.{Pending, Ready}
pub use Rattle.h1_body.specs.Reader.{reads}
pub use Rattle.h1_error.specs.declared.error.Error.{Error}
pub use Rattle.h1_error.specs.declared.error.ErrorType.{ErrorType}
pub use Rattle.h1_link.specs.Counts.{Rose, raised}
pub use Rattle.h1_link.specs.LinkState.{LinkState}
pub use Rattle.h1_server.specs.Payload.{BodyRefusal}
pub use Rattle.h1_server.specs.SessionView.{SessionView}
pub use Rattle.h1_server.specs.declared.settings.Settings.{Settings}
pub use Rattle.h1_transfer.specs.Calls.{Called, no_fault, read_fault_of_kind}
pub use Rattle.h1_transfer.specs.Decoding.{Decoded}
