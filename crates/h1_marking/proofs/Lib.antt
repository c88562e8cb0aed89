pub mod MarkingLemmas
