-- What contracts between crates and private ones cite, and no claim of the program or law reaches.
pub mod BegunSequence
pub mod Builds
pub mod Makes
pub mod EnterTrees
pub mod Initial
pub mod Limits
pub mod MapsAfter
pub mod Moves
pub mod ParallelMoves
pub mod Ready
pub mod Sides
pub mod ValueTrees
pub mod MovedNode
pub mod Pruned
