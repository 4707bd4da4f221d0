pub mod KnownLengths
pub mod Answering
pub mod Tracing
pub mod Devices
pub mod Ending
pub mod BadLines
pub mod ScriptFronts
pub mod Replaying
pub mod Stops
pub mod Journaling
pub mod Opening
pub mod Playing
pub mod ServeLemmas
pub mod ServeEnding
pub mod Fronts
pub mod Examinations
pub mod Working
pub mod WorkEnding
pub mod Causes
pub mod Unhindered
pub mod TwoRuns
pub mod Managed
pub mod FeedLemmas
pub mod GivenValues
pub mod Pasts
pub mod Desking
mod Renewing
mod SentLines
