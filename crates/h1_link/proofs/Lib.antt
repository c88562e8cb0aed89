pub mod CountLemmas
pub mod Laters
pub mod MemReads
pub mod Streams
