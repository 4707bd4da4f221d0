-- What contracts between crates and private ones cite, and no claim of the program or law reaches.
pub mod Cursor
pub mod NextPiece
pub mod Progress
pub mod Site
pub mod WithoutSends
