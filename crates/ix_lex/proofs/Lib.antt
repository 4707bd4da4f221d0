pub mod LongestRuns
pub mod ByteClasses
pub mod PiecesOf
pub mod PiecesExist
pub mod FirstTokens
pub mod NextPiece
