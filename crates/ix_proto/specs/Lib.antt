pub mod Requests
pub mod RequestFaults
pub mod Replies
pub mod RequestLaws
pub mod inside
