-- Lemmas that ghost members cite.
pub mod Order
