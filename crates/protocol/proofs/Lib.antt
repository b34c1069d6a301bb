-- sums and lowest numbers
pub mod Lowest
pub mod Totals
-- the definitions of the proof
pub mod Whole
pub mod Locking
-- the model without queues keeps its invariant
pub mod LockingAsk
pub mod LockingOpen
pub mod LockingGrant
pub mod LockingDone
pub mod LockingSettle
pub mod Counts
-- a site shows that model
pub mod Posts
pub mod Shows
pub mod ShowsOpen
pub mod ShowsAsk
pub mod ShowsGrant
pub mod ShowsSettle
pub mod Room
pub mod Quiet
pub mod Pairs
-- the site beside one table
pub mod Carrying
pub mod Requesting
pub mod Run
pub mod OneTable
-- the promise
pub mod OwnOnly
pub mod EventSets
pub mod Moments
pub mod Resting
pub mod Turning
pub mod OpenTurns
pub mod ClosedTurns
pub mod Kept
pub mod Plays
