pub mod Rewriting
pub mod Laws
pub mod inside
