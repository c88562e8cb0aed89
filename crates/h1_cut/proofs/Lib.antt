pub mod CutLemmas
pub mod FeedLemmas
pub mod LimitLemmas
pub mod LineLemmas
pub mod LookLemmas
pub mod SearchLemmas
pub mod StepLemmas
