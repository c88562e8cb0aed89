pub mod Peer
pub mod Served
pub mod Whole
