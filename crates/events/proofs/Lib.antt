pub mod MemberLaws
pub mod Sums
pub mod Filtering
