pub mod Gate
pub mod Hello
