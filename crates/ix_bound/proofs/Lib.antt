pub mod Walks
pub mod Counts
pub mod Named
pub mod Keyed
pub mod Sets
pub mod Bounded
pub mod Found
