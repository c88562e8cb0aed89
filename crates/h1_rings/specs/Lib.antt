pub mod RingRule
pub mod CloseWord
pub mod Ends
pub mod Settled
pub mod TaskSteps
pub mod PlainEnds
pub mod EndLaws
