-- What contracts between crates and private ones cite, and no claim of the program or law reaches.
pub mod Causes
pub mod Lends
pub mod ReplyParts
pub mod ReplyTexts
pub mod RequestTexts
