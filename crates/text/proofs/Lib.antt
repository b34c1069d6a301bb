pub mod FieldLaws
pub mod Growth
pub mod Single
pub mod Steps
pub mod Writings
