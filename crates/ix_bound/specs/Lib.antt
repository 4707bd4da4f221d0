pub mod Names
pub mod Heads
pub mod Keys
pub mod Number
pub mod Refusals
pub mod Bounds
pub mod Laws
pub mod inside
