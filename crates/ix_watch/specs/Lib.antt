pub mod inside
pub mod lemmas
