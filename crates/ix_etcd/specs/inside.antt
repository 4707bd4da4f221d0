-- What contracts between crates and private ones cite, and no claim of the program or law reaches.
pub mod Owner
pub mod Site
pub mod Status
