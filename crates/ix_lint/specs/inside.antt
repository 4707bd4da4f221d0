-- What private contracts cite.
pub mod Above
pub mod Search
