pub mod Running
pub mod Tables
