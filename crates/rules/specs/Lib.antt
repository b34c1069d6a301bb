-- The definitions that contracts cite.
pub mod Answers
pub mod Rule
pub mod Semantics
pub mod Words
pub mod Cells
pub mod Masked
pub mod Releases
pub mod Laws
pub mod Lowest
pub mod Related
