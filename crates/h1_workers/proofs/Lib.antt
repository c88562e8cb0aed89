pub mod TurnLemmas
pub mod ZipLemmas
