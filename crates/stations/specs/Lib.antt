-- The definitions that contracts cite.
pub mod Outgoing
pub mod Shows
pub mod Locks
pub mod Telling
pub mod Paths
pub mod Steps
