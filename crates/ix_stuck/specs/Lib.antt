pub mod Answers
pub mod Finishing
pub mod Gone
pub mod inside
