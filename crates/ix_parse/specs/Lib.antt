pub mod Limits
pub mod Symbols
pub mod Grammar
pub mod Faults
pub mod Canonical
pub mod Laws
pub mod inside
