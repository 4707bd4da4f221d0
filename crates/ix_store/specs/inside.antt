-- What contracts between crates and private ones cite, and no claim of the program or law reaches.
pub mod Keeping
pub mod KeptBy
pub mod Opens
pub mod Reading
pub mod Refusals
pub mod Renewing
pub mod Starting
pub mod Steps
