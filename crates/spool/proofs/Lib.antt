pub mod Parts
pub mod Slots
pub mod Pushing
pub mod Popping
pub mod Exactness
