pub mod Limits
pub mod Allowed
pub mod Histories
pub mod inside
