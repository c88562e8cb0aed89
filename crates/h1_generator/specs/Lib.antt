pub mod Generated
pub mod Messages
pub mod Kept
