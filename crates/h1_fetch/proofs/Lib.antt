pub mod OutputLemmas
pub mod GetLemmas
pub mod WordsLemmas
pub mod PlayLemmas
pub mod StepLemmas
pub mod StatusLemmas
