pub mod Cuts
pub mod LineLaw
pub mod Numerals
pub mod Standing
