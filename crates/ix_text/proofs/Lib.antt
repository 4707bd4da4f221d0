pub mod Bounds
pub mod Arguments
