pub mod Kinds
pub mod Releases
pub mod Content
pub mod Held
pub mod Declarations
