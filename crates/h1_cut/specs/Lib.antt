pub mod Cut
pub mod Limit
pub mod Lines
pub mod Search
pub mod Text
