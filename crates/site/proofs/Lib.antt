-- the lowest pair, and the stations by their numbers
pub mod LowestPairs
pub mod Stationing
-- one station acts, and one message is carried
pub mod Acting
pub mod Transferring
-- single calls
pub mod Serving
pub mod Requesting
pub mod Settling
pub mod Listing
