mod Told
mod Calls
mod ReadCalls
mod Histories
pub mod Pairing
mod Appending
mod Appended
mod Reading
mod Beginning
mod Begun
pub mod Opened
pub mod Renewing
