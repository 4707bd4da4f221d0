pub mod Plain
pub mod PlainOf
pub mod Size
pub mod Order
pub mod Laws
pub mod inside
pub mod lemmas
