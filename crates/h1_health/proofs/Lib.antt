pub mod HealthLemmas
