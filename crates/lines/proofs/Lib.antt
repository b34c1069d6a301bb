pub mod Reading
pub mod Placing
pub mod Queueing
