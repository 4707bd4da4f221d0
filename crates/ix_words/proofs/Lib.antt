pub mod Each
pub mod Parts
pub mod Words
pub mod Canon
pub mod Ways
pub mod Deciding
pub mod Laws
pub mod Owners
