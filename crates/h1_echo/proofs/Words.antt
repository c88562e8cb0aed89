-- The names of this crate's specs that its proofs speak in.
pub use Rattle.h1_echo.specs.Echo.{echo_settings, refused_reply}
pub use Rattle.h1_echo.specs.EchoRun.{Reading}
