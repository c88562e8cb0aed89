pub mod Plain
pub mod WrittenBody
pub mod Forwarded
pub mod Forwarding
pub mod Runs
pub mod Standing
