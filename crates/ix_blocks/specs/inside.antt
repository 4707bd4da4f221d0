-- What contracts between crates and private ones cite, and no claim of the program or law reaches.
pub mod PlainBlocks
pub mod Marks
pub mod StoreCalls
pub mod OwnerCalls
pub mod Reading
pub mod MemoryStore
