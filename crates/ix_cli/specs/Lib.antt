pub mod Commands
pub mod Words
pub mod Laws
pub mod inside
