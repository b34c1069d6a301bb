pub mod Refusals
pub mod Messages
pub mod Lists
pub mod Plays
pub mod Texts
