pub mod Grammar
pub mod Events
pub mod Pieces
pub mod Laws
pub mod inside
pub mod lemmas
