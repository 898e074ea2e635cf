pub mod Steps
pub mod Follows
pub mod Lists
pub mod FollowLaws
pub mod CheckLaws
pub mod Accepts
pub mod Answers
pub mod Unique
