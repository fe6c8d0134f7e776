pub mod Membership
pub mod Decisions
pub mod Kept
pub mod Distinct
pub mod Places
