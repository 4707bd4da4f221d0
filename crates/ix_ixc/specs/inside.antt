-- What private contracts cite, and no claim of the program or law reaches.
pub mod Untold
