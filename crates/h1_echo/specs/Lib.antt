pub mod Echo
pub mod EchoRun
pub mod EchoLaw
pub mod Words
