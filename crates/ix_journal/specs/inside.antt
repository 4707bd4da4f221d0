-- What contracts between crates and private ones cite, and no claim of the program or law reaches.
pub mod Answers
pub mod Counting
pub mod Fronts
pub mod KindOf
pub mod Reading
pub mod SlideBuffer
pub mod Sliding
pub mod Writing
