-- The names of other crates, and of declared types, that these specs and proofs speak in.
pub use Rattle.futures.specs.declared.task.Poll.{Poll}
pub use Rattle.futures.specs.declared.task.Poll.TheVariants.{Pending, Ready}
pub use Rattle.h1_body.specs.Framing.{framing, out}
pub use Rattle.h1_body.specs.declared.framing.Framing.{Framing}
pub use Rattle.h1_error.specs.declared.error.Error.{Error}
pub use Rattle.h1_error.specs.declared.error.ErrorType.{ErrorType}
pub use Rattle.h1_error.specs.declared.error.TaskKind.{TaskKind}
pub use Rattle.h1_head.specs.Interim.{is_interim}
pub use Rattle.h1_head.specs.Views.{RequestView, ResponseView}
pub use Rattle.h1_head.specs.declared.task.HttpTask.{HttpTask}
pub use Rattle.h1_head.specs.declared.task.HttpTask.TheVariants.{Body, Done, Failed, Header, Trailer, UpgradedBody}
pub use Rattle.h1_rings.specs.PlainEnds.{is_four}
pub use Rattle.h1_subrequest.specs.declared.body_mode.BodyMode.{BodyMode}
pub use Rattle.h1_subrequest.specs.declared.events.Direction.{Direction}
pub use Rattle.h1_subrequest.specs.declared.events.Direction.TheVariants.{ToHandle, ToSubrequest}
pub use Rattle.h1_subrequest.specs.declared.events.SubEvent.{SubEvent}
pub use Rattle.h1_subrequest.specs.declared.events.SubEvent.TheVariants.{Close, Gone, Put, Take}
pub use Rattle.h1_subrequest.specs.declared.parse_state.ParseState.{ParseState}
pub use Rattle.h1_subrequest.specs.declared.passing.Passing.{Passing}
pub use Rattle.h1_subrequest.specs.declared.passing.Passing.TheVariants.{Drops, Passes}
