pub mod EchoLemmas
pub mod RefusalLemmas
pub mod Words
