-- What private contracts cite.
pub mod Held
