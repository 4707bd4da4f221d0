-- What contracts between crates and private ones cite, and no claim of the program or law reaches.
pub mod Acknowledging
pub mod Clean
pub mod Core
pub mod Does
pub mod Over
pub mod OverSite
pub mod Ready
pub mod Refused
pub mod Saving
pub mod Serving
pub mod StartAnswers
pub mod StartFaults
pub mod TakenItems
pub mod WireState
