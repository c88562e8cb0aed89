pub mod GreetingLemmas
pub mod ServedLemmas
pub mod StampLemmas
