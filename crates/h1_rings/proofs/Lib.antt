pub mod RingSteps
pub mod WordSteps
pub mod Drained
