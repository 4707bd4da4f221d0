pub mod PlainAction
pub mod Texts
pub mod Order
pub mod Faults
pub mod Tickets
pub mod Laws
pub mod inside
pub mod lemmas
