-- What contracts between crates and private ones cite, and no claim of the program or law reaches.
pub mod ManagerCalls
pub mod ManagerLinks
pub mod Passing
pub mod Starting
