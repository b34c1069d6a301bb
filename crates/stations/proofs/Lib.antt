-- The lemmas that several proofs share.
pub mod Lowests
pub mod Posts
pub mod LockTables
pub mod Passing
pub mod Tellings
pub mod Freeing
pub mod Granting
pub mod Sendings
pub mod Strays
