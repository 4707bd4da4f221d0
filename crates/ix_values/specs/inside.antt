-- What contracts between crates and private ones cite, and no claim of the program or law reaches.
pub mod ActionOf
pub mod ActionOrder
pub mod Causes
pub mod FirstWord
pub mod Padding
