pub mod Ways
pub mod Nodes
pub mod TreeOf
pub mod May
pub mod Laws
pub mod inside
