pub mod BehindLemmas
pub mod AloneLemmas
pub mod CompleteLemmas
pub mod EntryLemmas
pub mod ServedLemmas
pub mod PlainLemmas
pub mod GrowthLemmas
pub mod Words
