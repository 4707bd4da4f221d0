pub mod Lexing
pub mod WordBytes
pub mod inside
