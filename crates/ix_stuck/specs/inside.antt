-- What private contracts cite, and no claim of the program or law reaches.
pub mod Coming
pub mod Graphs
pub mod Marks
pub mod Matching
pub mod Ruled
