pub mod Initial
pub mod Asked
pub mod Listed
pub mod Owned
pub mod Counts
pub mod Blamed
pub mod Refused
pub mod Parts
mod Alone
