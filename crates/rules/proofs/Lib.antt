-- The lemmas that several proofs share.
pub mod Rightly
pub mod Masking
pub mod Agreeing
