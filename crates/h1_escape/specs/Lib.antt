pub mod Escape
pub mod Target
