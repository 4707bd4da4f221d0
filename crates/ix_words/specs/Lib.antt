pub mod Each
pub mod Parts
pub mod Words
pub mod Canon
pub mod Laws
pub mod inside
