-- The names of this crate's specs that its proofs speak in.
pub use Rattle.h1_server.specs.Keepalive.{keepalive_set}
pub use Rattle.h1_server.specs.Payload.{DrainsBody}
pub use Rattle.h1_server.specs.SessionView.{SessionView, session}
