-- What contracts between crates and private ones cite, and no claim of the program or law reaches.
pub mod FormOf
pub mod Pairs
pub mod Scope
pub mod Walk
