-- What contracts between crates and private ones cite, and no claim of the program or law reaches.
pub mod Faults
pub mod Renewing
pub mod Walking
