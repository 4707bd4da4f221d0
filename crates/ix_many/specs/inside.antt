-- What private contracts cite, and no claim of the program or law reaches.
pub mod Hold
pub mod Passing
pub mod Site
pub mod Streams
pub mod Turns
