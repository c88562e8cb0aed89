pub mod WriteLemmas
pub mod ReadLemmas
pub mod StillLemmas
pub mod PutLemmas
pub mod EndLemmas
pub mod FetchLemmas
