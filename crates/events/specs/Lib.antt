pub mod Members
pub mod Sets
pub mod Marks
