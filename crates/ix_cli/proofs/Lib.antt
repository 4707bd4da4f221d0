pub mod Rules
pub mod Entries
pub mod Parsed
pub mod PlainCommands
pub mod Named
pub mod Reading
pub mod Blame
