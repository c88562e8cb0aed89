pub mod Greeting
pub mod GreetingLaw
pub mod Polled
pub mod Stamped
