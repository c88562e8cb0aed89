pub mod HoldsLemmas
pub mod HeadLemmas
pub mod ReplyLemmas
pub mod ReuseLemmas
pub mod Words
