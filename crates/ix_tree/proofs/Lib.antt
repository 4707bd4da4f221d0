pub mod PlainLists
pub mod Ends
pub mod Equal
pub mod Alternatives
mod Parted
