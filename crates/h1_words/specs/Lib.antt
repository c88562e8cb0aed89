pub mod ByteText
pub mod Report
pub mod Number
pub mod Command
pub mod Script
pub mod Words
pub mod Reader
