pub mod Looking
pub mod Spanning
pub mod GivingNext
pub mod TakingAll
pub mod SendingPart
pub mod Tearing
pub mod Calling
pub mod Moments
