-- The names of this crate's specs that its proofs speak in.
pub use Rattle.h1_application.specs.Application.{ReadsOnly, RefusedBy, WaitsBy}
