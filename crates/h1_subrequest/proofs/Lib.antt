pub mod TaskLemmas
pub mod QueueLemmas
pub mod WriterLemmas
pub mod ReaderLemmas
pub mod EventLemmas
