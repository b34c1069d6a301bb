pub mod Statuses
pub mod Replies
pub mod Outcomes
pub mod Transfers
pub mod Settling
pub mod Served
