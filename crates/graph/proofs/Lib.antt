pub mod Tables
pub mod Clashes
pub mod Drafts
