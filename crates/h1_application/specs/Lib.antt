pub mod Application
pub mod AtOnce
pub mod LengthLine
pub mod Reply
pub mod Words
