pub mod FilterLemmas
pub mod BuilderLemmas
pub mod ContentTypeLemmas
