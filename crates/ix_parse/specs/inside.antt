-- What contracts between crates and private ones cite, and no claim of the program or law reaches.
pub mod Configs
pub mod Judged
pub mod Operands
pub mod Outcomes
pub mod Progress
pub mod Stack
pub mod StackMachine
pub mod Views
