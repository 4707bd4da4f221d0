-- What private contracts cite.
pub mod Walked
