pub mod Trees
mod Permitting
mod Histories
