pub mod Rounds
pub mod Pieces
pub mod inside
