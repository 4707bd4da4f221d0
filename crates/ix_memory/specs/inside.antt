-- What contracts between crates and private ones cite, and no claim of the program or law reaches.
pub mod Adding
pub mod CanCome
pub mod EventsState
pub mod Fate
pub mod MemoryFilesState
pub mod MemorySinkState
pub mod MemorySiteState
pub mod Moments
pub mod NextEvent
pub mod NextPiece
pub mod PastCalls
pub mod Room
pub mod SentState
pub mod Spans
